-- What is known of blocks that are not refused. Definitions only; proofs/Sound.antt shows it.
use Rattle.std.specs.Prelude.{◌≡◌, ℕ, ◌≤◌, ◌<◌, length}
use Rattle.blocks.specs.declared.Blocks.{Blocks}
use Rattle.blocks.specs.Blocks.{most, length_of, weight_of, sum_to}

-- behind a consist of so many feet and tons
pub record Sound (b : Blocks) (feet tons : ℕ) : Type 0 where
  pub few : b.count ≤ most
  pub each_length : (k : ℕ) → k < b.count → 0 < length_of b k
  pub each_weight : (k : ℕ) → k < b.count → 0 < weight_of b k
  -- where there are any
  pub lengths : 0 < b.count → sum_to (length_of b) b.count ≡ feet
  pub weights : 0 < b.count → sum_to (weight_of b) b.count ≡ tons
  -- all places of its arrays
  pub lengths_64 : length b.lengths ≡ most
  pub weights_64 : length b.weights ≡ most
