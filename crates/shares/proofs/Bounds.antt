-- Bounds of the shares and of the averages by weight: a block has no more feet under it than its length. Assumes nothing.
use mathlib.Core.Path.{◌≡◌, refl}
use mathlib.Core.Bool.{Bool, true, false}
use Prim.Native.Nat.{ℕ, zero, suc, ◌-◌, ◌*◌, ◌/◌, ◌≤◌}
use native.Mathlib.Nat.{mul-le-mul_left, div-le_of_le-mul}
use native.Mathlib.Omega.{arith}
use lib.Dec.{eqb}
use lib.IntN.{ℤ, pos, nat_abs, ◌*ℤ◌}
use borrow.Author.Tests.{eqb-false}
use Rattle.whole.specs.Floor.{floor_div}
use Rattle.whole.proofs.Size.{abs_add, abs_times}
use Rattle.whole.proofs.Floors.{floor_most}
use Rattle.blocks.specs.declared.Blocks.{Blocks}
use Rattle.blocks.specs.Blocks.{length_of, weight_of, sum_to}
use Rattle.track.specs.declared.Track.{Track}
use Rattle.track.specs.Gentle.{Gentle, GentleAverages}
use Rattle.track.proofs.Gentle.{grade_sum_most, curvature_sum_most, gentle_averages}
use Rattle.shares.specs.Shares.{front_of, grade_along, curvature_along, grade_share, curvature_share, grade_shares, curvature_shares, ground_under}
use Rattle.shares.specs.Bounds.{GentleShares, Averaged, GentleGround}

-- ---- of a sum that is no steeper, and of one that is no sharper, than so many feet may be

pub grade_most : (sum : ℤ) (length weight : ℕ) → nat_abs sum ≤ 500 * length → nat_abs (floor_div (pos weight *ℤ (pos 100 *ℤ sum)) (pos length)) ≤ 50000 * weight
grade_most sum length weight h =
    let finer : nat_abs (pos 100 *ℤ sum) ≤ 50000 * length = omega (arith, abs_times 100 sum) in
    floor_most _ length (50000 * weight) (omega (arith, abs_times weight (pos 100 *ℤ sum), mul-le-mul_left weight finer))

pub curvature_most : (sum length weight : ℕ) → sum ≤ 2000 * length → weight * sum / length ≤ 2000 * weight
curvature_most sum length weight h = div-le_of_le-mul length (omega (arith, mul-le-mul_left weight h))

-- ---- of blocks

module _ (head : ℕ) (b : Blocks) (k : ℕ) where
  pub front_behind : front_of head b (suc k) ≤ front_of head b k
  unfolding sum_to
  front_behind = omega arith

  feet_most : front_of head b k - front_of head b (suc k) ≤ length_of b k
  unfolding sum_to
  feet_most = omega arith

module _ (t : Track) (head : ℕ) (b : Blocks) (gentle : Gentle t) where
  pub grade_along_most : (k : ℕ) → nat_abs (grade_along t head b k) ≤ 500 * length_of b k
  grade_along_most k = omega (arith, grade_sum_most t gentle (front_of head b (suc k)) (front_of head b k) (front_behind head b k), feet_most head b k)

  pub curvature_along_most : (k : ℕ) → curvature_along t head b k ≤ 2000 * length_of b k
  curvature_along_most k =
      omega (arith, curvature_sum_most t gentle (front_of head b (suc k)) (front_of head b k) (front_behind head b k), feet_most head b k)

  grade_share_most : (k : ℕ) → nat_abs (grade_share t head b k) ≤ 50000 * weight_of b k
  unfolding grade_share
  grade_share_most k = grade_most (grade_along t head b k) (length_of b k) (weight_of b k) (grade_along_most k)

  curvature_share_most : (k : ℕ) → curvature_share t head b k ≤ 2000 * weight_of b k
  unfolding curvature_share
  curvature_share_most k = curvature_most (curvature_along t head b k) (length_of b k) (weight_of b k) (curvature_along_most k)

  -- of the first n blocks
  pub grade_shares_most : (n : ℕ) → nat_abs (grade_shares t head b n) ≤ 50000 * sum_to (weight_of b) n
  unfolding grade_shares sum_to
  grade_shares_most zero = omega arith
  grade_shares_most (suc n) =
      omega (arith, abs_add (grade_shares t head b n) (grade_share t head b n), grade_share_most n, grade_shares_most n)

  pub curvature_shares_most : (n : ℕ) → curvature_shares t head b n ≤ 2000 * sum_to (weight_of b) n
  unfolding sum_to
  curvature_shares_most zero = omega arith
  curvature_shares_most (suc n) = omega (arith, curvature_share_most n, curvature_shares_most n)

pub gentle_shares : GentleShares
unfolding GentleShares
gentle_shares t head b gentle = record { grade = grade_share_most t head b gentle; curvature = curvature_share_most t head b gentle }

pub gentle_ground : GentleGround
unfolding GentleGround GentleAverages ground_under
gentle_ground t head length weight b gentle sound = by (eqb b.count 0) refl
  where
    by : (e : Bool) → eqb b.count 0 ≡ e → Averaged t head length weight b
    by true e = let a = gentle_averages t head length gentle in record { grade = rw e a.grade; curvature = rw e a.curvature }
    by false e =
        let some = eqb-false b.count 0 e in
        let w = sound.weights (omega (arith, some)) in
        record {
          grade = rw e (floor_most _ weight 50000 (omega (arith, w, grade_shares_most t head b gentle b.count)));
          curvature = rw e (div-le_of_le-mul weight (omega (arith, w, curvature_shares_most t head b gentle b.count)));
        }
