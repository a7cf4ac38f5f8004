-- What one target and its fields have to do with each other, and what the judge and the writer accept, said of the numbers. Assumes nothing.
use mathlib.Core.Path.{◌≡◌, refl}
use mathlib.Core.Bool.{true}
use mathlib.Core.List.{List}
use Prim.Native.Nat.{ℕ}
use native.Mathlib.Omega.{arith}
use lib.Dec.{leb}
use lib.ListN.{length}
use borrow.Author.Tests.{leb-true, eqb-true}
use Rattle.bits.specs.Fields.{Fit}
use Rattle.bits.proofs.Ranges.{and-true_left, and-true_right}
use Rattle.record.specs.Location.{farthest}
use Rattle.refusal.specs.Verdict.{Accepted}
use Rattle.table.specs.Facts.{Facts}
use Rattle.table.proofs.Judging as table
use Rattle.table.proofs.RoundTrip.{written_lawful}
use Rattle.targets.specs.declared.Target.{Target}
use Rattle.targets.specs.Targets.{widths, fields_of, fastest, in_range, targets, target_at, judge_targets, same, write_targets}
use Rattle.targets.specs.Sound.{Ranged, Sound}

-- ---- one target

pub ranged : (g : Target) → in_range g ≡ true → Ranged g
unfolding in_range
ranged g h = record {
  location = leb-true _ _ (and-true_left (leb g.location farthest) (leb g.speed fastest) h);
  speed = leb-true _ _ (and-true_right (leb g.location farthest) (leb g.speed fastest) h);
}

fits : (g : Target) → in_range g ≡ true → Fit widths (fields_of g)
fits g h = omega (arith, ranged g h)

pub facts : Facts targets
facts = record { some = omega arith; whole = refl; narrow = tt; right = λ g. refl; fits = fits; back = λ g h. refl; forth = λ m h. refl; first = tt }

-- ---- what is accepted

pub judged_sound : (t : List ℕ) (n : ℕ) → judge_targets t ≡ (Accepted, n) → Sound n (target_at t)
judged_sound t n h =
    let s = table.judged_sound targets t n h in
    record { most = s.most; each = λ k l. ranged (target_at t k) (s.each k l); rising = s.rising }

pub written_lengths : (locations speeds out : List ℕ) → (write_targets locations speeds out).0 ≡ Accepted → length speeds ≡ length locations
written_lengths locations speeds out h = eqb-true _ _ (and-true_left (same locations speeds) _ (written_lawful targets _ _ _ out h).0)
