-- How large the totals of a gentle track are: no larger than its steepest grade and its sharpest curvature make them. Assumes nothing.
use mathlib.Core.Path.{◌≡◌, ap}
use Prim.Native.Nat.{ℕ, zero, suc, ◌+◌, ◌*◌, ◌^◌, ◌≤◌, ◌<◌}
use native.Mathlib.Nat.{mul-le-mul_left}
use native.Mathlib.Numerals.{add-one}
use native.Mathlib.Decide.{dec_lt}
use native.Mathlib.Omega.{arith}
use lib.IntN.{pos, nat_abs, ◌*ℤ◌}
use Rattle.whole.proofs.Size.{abs_add, abs_times}
use Rattle.profile.specs.Profile.{most}
use Rattle.track.specs.declared.Track.{Track}
use Rattle.track.specs.Track.{at, segments}
use Rattle.track.specs.Gentle.{Gentle}
use Rattle.track.specs.Totals.{all_feet, grade_total, curvature_total, holding, feet_to, grade_to, curvature_to}
use Rattle.track.specs.Steps.{Sized, reached_of, total_of}
use Rattle.track.proofs.Holding.{holding_most, holding_starts}

module _ (t : Track) (gentle : Gentle t) where
  -- of the first k segments
  pub grade_total_most : (k : ℕ) → k ≤ segments t → nat_abs (grade_total t k) ≤ 500 * (at t k).start
  unfolding all_feet grade_total
  grade_total_most zero l = omega arith
  grade_total_most (suc k) l =
      let f = all_feet t k in
      let g = (at t k).grade in
      omega (
        arith,
        abs_add (grade_total t k) (pos f *ℤ g),
        abs_times f g,
        mul-le-mul_left f (gentle.grade k),
        grade_total_most k (omega arith),
        gentle.rising.starts k l,
        ap (λ (i : ℕ). (at t i).start) (add-one k),
      )

  pub curvature_total_most : (k : ℕ) → k ≤ segments t → curvature_total t k ≤ 2000 * (at t k).start
  unfolding all_feet curvature_total
  curvature_total_most zero l = omega arith
  curvature_total_most (suc k) l =
      omega (
        arith,
        mul-le-mul_left (all_feet t k) (gentle.curvature k),
        curvature_total_most k (omega arith),
        gentle.rising.starts k l,
        ap (λ (i : ℕ). (at t i).start) (add-one k),
      )

  module _ (x : ℕ) where
    -- of those before the segment of x
    pub held_sized : x < 2 ^ 32 → Sized most (total_of t (holding t x))
    unfolding grade_total curvature_total
    held_sized l = by (dec_lt 0 (holding t x))
      where
        by : Dec (0 < holding t x) → Sized most (total_of t (holding t x))
        by (yes h) =
            let m = holding_most t.starts x (segments t) in
            let s = holding_starts t.starts x (segments t) h in
            record { grade = omega (arith, grade_total_most (holding t x) m); curvature = omega (arith, curvature_total_most (holding t x) m) }
        by (no h) =
            let e : holding t x ≡ 0 = omega arith in
            rw e (record { grade = omega arith; curvature = omega arith })

    -- up to x
    pub to_sized : x < 2 ^ 32 → Sized (most + 1) (reached_of t x).sums
    unfolding grade_to curvature_to
    to_sized l =
        let k = holding t x in
        let f = feet_to t x k in
        let g = (at t k).grade in
        let h = held_sized l in
        record {
          grade = omega (arith, abs_add (grade_total t k) (pos f *ℤ g), abs_times f g, mul-le-mul_left f (gentle.grade k), h.grade);
          curvature = omega (arith, mul-le-mul_left f (gentle.curvature k), h.curvature);
        }
