-- What the steps on the way to the averages by weight find and ask. Definitions only.
use Rattle.std.specs.Prelude.{◌≡◌, ℕ, ◌+◌, ◌-◌, ◌*◌, ◌/◌, ◌^◌, ◌≤◌, ◌<◌, ℤ, pos, nat_abs, ◌+ℤ◌, ◌-ℤ◌, ◌*ℤ◌}
use Rattle.whole.specs.Floor.{floor_div}
use Rattle.blocks.specs.declared.Blocks.{Blocks}
use Rattle.blocks.specs.Blocks.{most, length_of, weight_of, sum_to}
use Rattle.track.specs.declared.Track.{Track}
use Rattle.track.specs.declared.Under.{Under}
use Rattle.track.specs.declared.Sums.{Sums}
use Rattle.track.specs.Steps.{Behind}
use Rattle.shares.specs.declared.Shares.{Shares}
use Rattle.shares.specs.Shares.{grade_shares, curvature_shares}

-- some blocks that weigh this much together
pub record Loaded (b : Blocks) (weight : ℕ) : Type 0 where
  pub some : 0 < b.count
  pub few : b.count ≤ most
  pub each_length : (k : ℕ) → k < b.count → 0 < length_of b k
  pub each_weight : (k : ℕ) → k < b.count → 0 < weight_of b k
  pub weights : sum_to (weight_of b) b.count ≡ weight

-- a sum of grade × feet, times a weight, over a length, down
abbrev pub grade_share_of : (sum : ℤ) (length weight : ℕ) → ℤ
grade_share_of sum length weight = floor_div (pos weight *ℤ (pos 100 *ℤ sum)) (pos length)

abbrev pub curvature_share_of : (sum length weight : ℕ) → ℕ
curvature_share_of sum length weight = weight * sum / length

-- with the share of a block that lies from `rear` to `front`
abbrev pub plus_of : Shares → (rear front : Sums) (length weight : ℕ) → Shares
plus_of s rear front length weight = record {
  grade = s.grade +ℤ grade_share_of (front.grade -ℤ rear.grade) length weight;
  curvature = s.curvature + curvature_share_of (front.curvature - rear.curvature) length weight;
}

-- over a weight, each down
abbrev pub over_of : Shares → (weight : ℕ) → Under
over_of s weight = record { grade = floor_div s.grade (pos weight); curvature = s.curvature / weight }

-- shares so far, and the totals at the ends of a block of this length, of a gentle track
pub record Between (s : Shares) (rear front : Sums) (length : ℕ) : Type 0 where
  pub behind : Behind rear front
  pub long : 0 < length
  pub gentle_grade : nat_abs (front.grade -ℤ rear.grade) ≤ 500 * length
  pub gentle_curvature : front.curvature - rear.curvature ≤ 2000 * length
  pub small_grade : nat_abs s.grade ≤ 2 ^ 40
  pub small_curvature : s.curvature ≤ 2 ^ 40

-- the shares of the first n blocks
abbrev pub shares_to : Track → (head : ℕ) → Blocks → ℕ → Shares
shares_to t head b n = record { grade = grade_shares t head b n; curvature = curvature_shares t head b n }
