-- Document 02's R-1: "Grade and curvature are then averaged by weight: a block's share is its weight × its sum under the block / its length, down; the
-- shares' total over the train's weight is again rounded down." A grade's sum is made ten-thousandths of a percent inside the share. Definitions only.
use Rattle.std.specs.Prelude.{ℕ, zero, suc, ◌-◌, ◌*◌, ◌/◌, cond, eqb, ℤ, pos, ◌+ℤ◌, ◌*ℤ◌}
use Rattle.whole.specs.Floor.{floor_div}
use Rattle.blocks.specs.declared.Blocks.{Blocks}
use Rattle.blocks.specs.Blocks.{length_of, weight_of, sum_to}
use Rattle.track.specs.declared.Track.{Track}
use Rattle.track.specs.declared.Under.{Under}
use Rattle.track.specs.Track.{segments, grade_feet, curvature_feet, under_of}

-- ---- where a block lies: "head end first"

-- the front of block k, behind the blocks before it; the rear of the one before
abbrev pub front_of : (head : ℕ) → Blocks → ℕ → ℕ
front_of head b k = head - sum_to (length_of b) k

-- "its sum under the block": of grade × feet, and of curvature × feet
abbrev pub grade_along : Track → (head : ℕ) → Blocks → ℕ → ℤ
grade_along t head b k = grade_feet t (front_of head b (suc k)) (front_of head b k) (segments t)

abbrev pub curvature_along : Track → (head : ℕ) → Blocks → ℕ → ℕ
curvature_along t head b k = curvature_feet t (front_of head b (suc k)) (front_of head b k) (segments t)

-- ---- by weight

-- "a block's share is its weight × its sum under the block / its length, down"
unfoldable pub grade_share : Track → (head : ℕ) → Blocks → ℕ → ℤ
grade_share t head b k = floor_div (pos (weight_of b k) *ℤ (pos 100 *ℤ grade_along t head b k)) (pos (length_of b k))

unfoldable pub curvature_share : Track → (head : ℕ) → Blocks → ℕ → ℕ
curvature_share t head b k = weight_of b k * curvature_along t head b k / length_of b k

-- "the shares' total", of the first n blocks
unfoldable pub grade_shares : Track → (head : ℕ) → Blocks → ℕ → ℤ
grade_shares t head b zero = pos 0
grade_shares t head b (suc n) = grade_shares t head b n +ℤ grade_share t head b n

abbrev pub curvature_shares : Track → (head : ℕ) → Blocks → ℕ → ℕ
curvature_shares t head b n = sum_to (curvature_share t head b) n

-- "over the train's weight is again rounded down"
abbrev pub by_weight : Track → (head weight : ℕ) → Blocks → Under
by_weight t head weight b = record {
  grade = floor_div (grade_shares t head b b.count) (pos weight);
  curvature = curvature_shares t head b b.count / weight;
}

-- G and C under a train of this length and weight: where it has no blocks, over its length
unfoldable pub ground_under : Track → (head length weight : ℕ) → Blocks → Under
ground_under t head length weight b = cond (eqb b.count 0) (under_of t head length) (by_weight t head weight b)
