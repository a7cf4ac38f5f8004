use mathlib.Core.Path.{◌≡◌, refl, sym, ap₂}
use Prim.Native.Nat.{ℕ}
use native.Mathlib.Nat.{div-zero}
use lib.IntN.{ℤ, pos, negsuc}
use Rattle.whole.specs.Floor.{floor_div}
use Rattle.track.specs.declared.Sums.{Sums}
use Rattle.track.specs.Steps.{averages_of}
use Rattle.track.proofs.averages.Goals as goal

over_zero : (z : ℤ) → pos 0 ≡ floor_div z (pos 0)
unfolding floor_div
over_zero (pos a) = refl
over_zero (negsuc a) = refl

none : (rear head : Sums) (length : ℕ) → length ≡ 0 → record { grade = pos 0; curvature = 0 } ≡ averages_of rear head length
none rear head length e = rw e (ap₂ (λ (z : ℤ) (n : ℕ). record { grade = z; curvature = n }) (over_zero _) (sym (div-zero _)))

pub returns-then-length-eq0 : goal.returns-then-length-eq0
returns-then-length-eq0 c = none c.args.rear c.args.head c.args.length c.if-length-eq0.true
