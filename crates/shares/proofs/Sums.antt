-- From the totals at a block's ends to its share, and the sizes that the code needs. Assumes nothing.
use mathlib.Core.Path.{◌≡◌, sym, ap}
use Prim.Native.Nat.{ℕ, zero, suc, ◌+◌, ◌-◌, ◌*◌, ◌/◌, ◌^◌, ◌≤◌, ◌<◌}
use native.Mathlib.Nat.{le_refl}
use native.Mathlib.Decide.{ℕ_discrete}
use native.Mathlib.Omega.{arith}
use lib.IntN.{ℤ, pos, nat_abs, ◌-ℤ◌, ◌*ℤ◌}
use Rattle.whole.specs.Floor.{floor_div}
use Rattle.blocks.specs.declared.Blocks.{Blocks}
use Rattle.blocks.specs.Blocks.{length_of, weight_of, sum_to}
use Rattle.track.specs.declared.Track.{Track}
use Rattle.track.specs.declared.Sums.{Sums}
use Rattle.track.specs.Gentle.{Gentle}
use Rattle.track.specs.Totals.{Differences, Totalled}
use Rattle.track.specs.Steps.{reached_of}
use Rattle.track.proofs.Differences.{totalled}
use Rattle.track.proofs.Sizes.{to_sized}
use Rattle.shares.specs.Shares.{front_of, grade_share, curvature_share, grade_shares}
use Rattle.shares.specs.Steps.{Loaded, grade_share_of, curvature_share_of, plus_of, Between, shares_to}
use Rattle.shares.proofs.Bounds.{front_behind, grade_along_most, curvature_along_most, grade_shares_most, curvature_shares_most}

-- the sum of more is no less
sum_grows : (f : ℕ → ℕ) (n m : ℕ) → n ≤ m → sum_to f n ≤ sum_to f m
unfolding sum_to
sum_grows f n zero h =
    let e : n ≡ 0 = omega arith in
    rw e (le_refl _)
sum_grows f n (suc m) h = by (ℕ_discrete n (suc m)) (sum_grows f n m)
  where
    by : Dec (n ≡ suc m) → (n ≤ m → sum_to f n ≤ sum_to f m) → sum_to f n ≤ sum_to f m + f m
    by (yes e) r = rw e (le_refl _)
    by (no d) r = omega (arith, r (omega arith))

pub front_next : (head : ℕ) (b : Blocks) (k : ℕ) → front_of head b k - length_of b k ≡ front_of head b (suc k)
unfolding sum_to
front_next head b k = omega arith

-- the totals at the front of block k
abbrev pub front_sums : Track → (head : ℕ) → Blocks → ℕ → Sums
front_sums t head b k = (reached_of t (front_of head b k)).sums

module _ (t : Track) (head : ℕ) (b : Blocks) (gentle : Gentle t) where
  differ : (k : ℕ) → Differences t (front_of head b (suc k)) (front_of head b k)
  unfolding Totalled
  differ k = totalled t (front_of head b (suc k)) (front_of head b k) gentle.rising (front_behind head b k)

  -- what the totals gain under a block makes its share
  grade_share_is : (k : ℕ) → grade_share_of ((front_sums t head b k).grade -ℤ (front_sums t head b (suc k)).grade) (length_of b k) (weight_of b k) ≡ grade_share t head b k
  unfolding grade_share
  grade_share_is k = ap (λ (z : ℤ). floor_div (pos (weight_of b k) *ℤ (pos 100 *ℤ z)) (pos (length_of b k))) (sym (differ k).grade)

  curvature_share_is : (k : ℕ)
      → curvature_share_of ((front_sums t head b k).curvature - (front_sums t head b (suc k)).curvature) (length_of b k) (weight_of b k) ≡ curvature_share t head b k
  unfolding curvature_share
  curvature_share_is k = ap (λ (n : ℕ). weight_of b k * n / length_of b k) (sym (differ k).curvature)

  pub shares_on : (k : ℕ)
      → plus_of (shares_to t head b k) (front_sums t head b (suc k)) (front_sums t head b k) (length_of b k) (weight_of b k) ≡ shares_to t head b (suc k)
  unfolding grade_shares sum_to
  shares_on k = rw (grade_share_is k, curvature_share_is k)

  module _ (weight : ℕ) (loaded : Loaded b weight) (light : weight < 2 ^ 16) where
    weight_most : (k : ℕ) → k ≤ b.count → sum_to (weight_of b) k ≤ 2 ^ 16
    weight_most k l = omega (arith, sum_grows (weight_of b) k b.count l, loaded.weights)

    pub small_grade : (k : ℕ) → k ≤ b.count → nat_abs (shares_to t head b k).grade ≤ 2 ^ 40
    small_grade k l = omega (arith, grade_shares_most t head b gentle k, weight_most k l)

    small_curvature : (k : ℕ) → k ≤ b.count → (shares_to t head b k).curvature ≤ 2 ^ 40
    small_curvature k l = omega (arith, curvature_shares_most t head b gentle k, weight_most k l)

    pub some_weight : 0 < weight
    unfolding sum_to
    some_weight = omega (arith, loaded.weights, sum_grows (weight_of b) 1 b.count loaded.some, loaded.each_weight 0 loaded.some)

    pub between : (k : ℕ) → k < b.count → head < 2 ^ 32 → Between (shares_to t head b k) (front_sums t head b (suc k)) (front_sums t head b k) (length_of b k)
    between k l fits =
        let d = differ k in
        record {
          behind = record {
            sized_rear = to_sized t gentle (front_of head b (suc k)) (omega arith);
            sized_head = to_sized t gentle (front_of head b k) (omega arith);
            rises = d.rises;
          };
          long = loaded.each_length k l;
          gentle_grade = rw (← d.grade) (grade_along_most t head b gentle k);
          gentle_curvature = rw (← d.curvature) (curvature_along_most t head b gentle k);
          small_grade = small_grade k (omega arith);
          small_curvature = small_curvature k (omega arith);
        }
