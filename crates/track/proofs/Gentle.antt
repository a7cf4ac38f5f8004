-- Bounds of the averages under a train: its segments' feet add up to no more than its length. Assumes nothing.
use Prim.Native.Nat.{ℕ, zero, suc, ◌-◌, ◌*◌, ◌≤◌}
use native.Mathlib.Nat.{mul-le-mul_left, div-le_of_le-mul, le_refl}
use native.Mathlib.Omega.{arith}
use lib.IntN.{pos, nat_abs, ◌*ℤ◌}
use Rattle.whole.proofs.Size.{abs_add, abs_times}
use Rattle.whole.proofs.Floors.{floor_most}
use Rattle.track.specs.declared.Track.{Track}
use Rattle.track.specs.Track.{at, feet, grade_feet, curvature_feet, segments, grade_under, curvature_under}
use Rattle.track.specs.Rising.{feet_under, FeetClamped}
use Rattle.track.specs.Gentle.{Gentle, GentleAverages}
use Rattle.track.proofs.Rising.{feet_clamped}

module _ (t : Track) (gentle : Gentle t) (rear head : ℕ) where
  grade_feet_most : (n : ℕ) → nat_abs (grade_feet t rear head n) ≤ 500 * feet_under t rear head n
  unfolding grade_feet feet_under
  grade_feet_most zero = omega arith
  grade_feet_most (suc n) =
      let f = feet t rear head n in
      let g = (at t n).grade in
      omega (arith, abs_add (grade_feet t rear head n) (pos f *ℤ g), abs_times f g, mul-le-mul_left f (gentle.grade n), grade_feet_most n)

  curvature_feet_most : (n : ℕ) → curvature_feet t rear head n ≤ 2000 * feet_under t rear head n
  unfolding curvature_feet feet_under
  curvature_feet_most zero = omega arith
  curvature_feet_most (suc n) = omega (arith, mul-le-mul_left (feet t rear head n) (gentle.curvature n), curvature_feet_most n)

-- from a rear at or behind the head
module _ (t : Track) (gentle : Gentle t) (rear head : ℕ) (h : rear ≤ head) where
  feet_most : feet_under t rear head (segments t) ≤ head - rear
  unfolding FeetClamped
  feet_most = (feet_clamped t rear head gentle.rising h).at_most (segments t) (le_refl _)

  pub grade_sum_most : nat_abs (grade_feet t rear head (segments t)) ≤ 500 * (head - rear)
  grade_sum_most = omega (arith, grade_feet_most t gentle rear head (segments t), feet_most)

  pub curvature_sum_most : curvature_feet t rear head (segments t) ≤ 2000 * (head - rear)
  curvature_sum_most = omega (arith, curvature_feet_most t gentle rear head (segments t), feet_most)

pub gentle_averages : GentleAverages
unfolding GentleAverages grade_under curvature_under
gentle_averages t head length gentle =
    let rear = head - length in
    let h : rear ≤ head = omega arith in
    record {
      grade = floor_most _ length 50000 (omega (arith, abs_times 100 (grade_feet t rear head (segments t)), grade_sum_most t gentle rear head h));
      curvature = div-le_of_le-mul length (omega (arith, curvature_sum_most t gentle rear head h));
    }
