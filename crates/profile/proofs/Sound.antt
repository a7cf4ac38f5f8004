-- What one segment and its fields have to do with each other, and what the judge and the writer accept, said of the numbers. Assumes nothing.
use mathlib.Core.Path.{◌≡◌, refl, sym, ap, ap₂, ◌∙◌}
use mathlib.Core.Bool.{Bool, true, ◌&&◌}
use mathlib.Core.List.{List, [], ◌∷◌}
use Prim.Native.Nat.{ℕ, ◌/◌, ◌%◌, ◌^◌, ◌≤◌, ◌<◌}
use native.Mathlib.Omega.{arith}
use lib.Dec.{leb, eqb}
use lib.IntN.{ℤ, pos, negsuc, nat_abs}
use lib.ListN.{length}
use lib.Signed.{mag}
use mir.Syntax.{w16}
use mir.Val.{of_z}
use borrow.Author.Tests.{leb-true, eqb-true}
use Rattle.bits.specs.Fields.{split, Fit}
use Rattle.bits.proofs.Ranges.{and-true_left, and-true_right}
use Rattle.refusal.specs.Verdict.{Accepted}
use Rattle.table.proofs.Records as records
use Rattle.table.specs.Facts.{Facts}
use Rattle.table.proofs.Judging as table
use Rattle.profile.specs.declared.Segment.{Segment}
use Rattle.profile.specs.Profile.{widths, fields_of, of_fields, spare_zero, steepest, sharpest, in_range, ends, segments, count, segment_at, lawful_in, judge_profile, same}
use Rattle.profile.specs.Sound.{Ranged, Sound}
use Rattle.profile.proofs.Grade.{bits_of_grade, grade_of_bits, in_eleven, lowest_bits, zero_bits}

-- ---- one segment

pub ranged : (g : Segment) → in_range g ≡ true → Ranged g
unfolding in_range
ranged g h =
    let a = leb (nat_abs g.grade) steepest in
    let b = leb g.curvature sharpest in
    let l = and-true_left (a && b) _ h in
    record { grade = leb-true _ _ (and-true_left a b l); curvature = leb-true _ _ (and-true_right a b l); start = leb-true _ _ (and-true_right (a && b) _ h) }

fits : (g : Segment) → in_range g ≡ true → Fit widths (fields_of g)
fits g h =
    let r = ranged g h in
    omega (arith, lowest_bits g.grade (in_eleven g.grade r.grade))

back : (g : Segment) → in_range g ≡ true → of_fields (fields_of g) ≡ g
back g h = rw (grade_of_bits g.grade (in_eleven g.grade (ranged g h).grade))

forth : (m : ℕ) → spare_zero (split widths m) ≡ true → fields_of (of_fields (split widths m)) ≡ split widths m
forth m h =
    ap₂ (λ (g z : ℕ). m / 2 ^ 24 % 2 ^ 24 ∷ g ∷ m / 2 ^ 2 % 2 ^ 11 ∷ z ∷ []) (bits_of_grade (m / 2 ^ 13 % 2 ^ 11) (omega arith)) (sym (eqb-true (m / 1 % 2 ^ 2) 0 h))

pub facts : Facts segments
facts = record { some = omega arith; whole = refl; narrow = tt; right = λ g. refl; fits = fits; back = back; forth = forth; first = tt }

zero_grade : (z : ℤ) → nat_abs z ≡ 0 → z ≡ pos 0
zero_grade (pos n) h = ap pos h
zero_grade (negsuc n) h = absurd (omega arith)

ends_zero : (g : Segment) → ends g ≡ true → (g.grade ≡ pos 0) × (g.curvature ≡ 0)
unfolding ends
ends_zero g h =
    let a = eqb (nat_abs g.grade) 0 in
    let b = eqb g.curvature 0 in
    (zero_grade g.grade (eqb-true _ 0 (and-true_left a b h)), eqb-true _ 0 (and-true_right a b h))

-- the test of the code, which has a grade's bits
pub ends_is : (g : Segment) → mag g.grade < 2 ^ 15 → eqb (of_z w16 g.grade) 0 && eqb g.curvature 0 ≡ ends g
unfolding ends
ends_is g h = ap (λ (b : Bool). b && eqb g.curvature 0) (zero_bits g.grade h)

-- ---- lists of one length

pub lengths : (starts : List ℕ) (grades : List ℤ) (curvatures : List ℕ) → same starts grades curvatures ≡ true
    → (length grades ≡ length starts) × (length curvatures ≡ length starts)
lengths starts grades curvatures h =
    let a = eqb (length grades) (length starts) in
    let b = eqb (length curvatures) (length starts) in
    (eqb-true _ _ (and-true_left a b h), eqb-true _ _ (and-true_right a b h))

-- ---- what is accepted

module _ (p : List ℕ) where
  pub judge_lawful : lawful_in p ≡ true → judge_profile p ≡ (Accepted, count p)
  judge_lawful h = table.judge_is segments p true h

  -- past the last whole record
  pub past_last : (k : ℕ) → count p ≤ k → segment_at p k ≡ record { start = 0; grade = pos 0; curvature = 0 }
  past_last k h = records.past_last segments p k h

  module _ (n : ℕ) (h : judge_profile p ≡ (Accepted, n)) where
    pub judged_lawful : (lawful_in p ≡ true) × (count p ≡ n)
    judged_lawful = table.judged_lawful segments p n h

    pub judged_sound : Sound n (segment_at p)
    judged_sound =
        let s = table.judged_sound segments p n h in
        let last = ends_zero _ (table.closed_last segments n (segment_at p) (omega (arith, s.fewest)) ∙ s.last) in
        record { fewest = s.fewest; most = s.most; each = λ k l. ranged (segment_at p k) (s.each k l); rising = s.rising; last_grade = last.0; last_curvature = last.1 }
