-- A segment's feet are below 2 ^ 32, its grade is at most 2 ^ 15 in size, its curvature below 2 ^ 16.
use mathlib.Core.Path.{◌≡◌, ap}
use Prim.Native.Nat.{ℕ, ◌+◌, ◌*◌, ◌^◌, ◌≤◌, ◌<◌}
use native.Mathlib.Nat.{mul-le-mul}
use native.Mathlib.Omega.{arith}
use lib.IntN.{ℤ, pos, negsuc, nat_abs, ◌+ℤ◌, ◌*ℤ◌}
use mir.Syntax.{w16, w64}
use mir.Val.{SFits}
use Rattle.whole.proofs.Size.{abs_add, abs_times, fits_abs}
use Rattle.whole.proofs.Words.{nat_holds, fit_holds, op_holds, cast_holds}
use Rattle.track.specs.declared.Sums.{Sums}
use Rattle.track.specs.Steps.{plus_of, Plus, Sized}
use Rattle.profile.specs.Profile.{most}
use Rattle.track.proofs.Sums.plus.Goals as goal

abs_fit : (z : ℤ) → SFits w16 z → nat_abs z ≤ 2 ^ 15
abs_fit (pos n) h = omega (arith, h.sfits)
abs_fit (negsuc n) h = h.sfits

module _ (s : Sums) (feet : ℕ) (grade : ℤ) (curvature : ℕ) (f : feet < 2 ^ 32) (g : SFits w16 grade) (c : curvature < 2 ^ 16) where
  term_most : nat_abs (pos feet *ℤ grade) ≤ 2 ^ 47
  term_most =
      let l : feet ≤ 2 ^ 32 = omega arith in
      omega (arith, abs_times feet grade, mul-le-mul l (abs_fit grade g))

  curvature_most : feet * curvature ≤ 2 ^ 48
  curvature_most =
      let l : feet ≤ 2 ^ 32 = omega arith in
      let m : curvature ≤ 2 ^ 16 = omega arith in
      omega (arith, mul-le-mul l m)

  plus : (r : Sums) → r ≡ plus_of s feet grade curvature → Plus s feet grade curvature r
  plus r e = record {
    sum = e;
    sized = λ n h. record {
      grade = rw e (omega (arith, h.grade, term_most, abs_add s.grade (pos feet *ℤ grade)));
      curvature = rw e (omega (arith, h.curvature, curvature_most));
    };
  }

  sum_fits : Sized most s → SFits w64 (s.grade +ℤ pos feet *ℤ grade)
  sum_fits h = fits_abs (omega (arith, h.grade, term_most, abs_add s.grade (pos feet *ℤ grade)))

pub returns : goal.returns
returns c =
    let a = c.args in
    let s = a.self in
    let wide : SFits w64 a.grade = fits_abs (omega (arith, abs_fit a.grade c.ranges.grade)) in
    let term = op_holds ◌*ℤ◌ (nat_holds {n = a.feet} (omega arith)) (cast_holds (fit_holds c.ranges.grade) wide) (fits_abs (omega (arith, term_most s a.feet a.grade a.curvature (omega arith) c.ranges.grade (omega arith)))) in
    plus s a.feet a.grade a.curvature (omega arith) c.ranges.grade (omega arith) _
    (ap (λ (z : ℤ). record { grade = z; curvature = s.curvature + a.feet * a.curvature })
    (op_holds ◌+ℤ◌ (fit_holds (fits_abs (omega (arith, c.requires.grade)))) term (sum_fits s a.feet a.grade a.curvature (omega arith) c.ranges.grade (omega arith) c.requires)).reads)
