-- The feet of each segment under a train, where the starts rise. A statement; proofs/Rising.antt proves it.
use Rattle.std.specs.Prelude.{◌≡◌, ℕ, zero, suc, ◌+◌, ◌-◌, ◌≤◌, ◌<◌, min, max}
use Rattle.track.specs.declared.Track.{Track}
use Rattle.track.specs.Track.{at, feet, segments}

-- "Starts strictly rise": here, that none falls
pub record Rising (t : Track) : Type 0 where
  pub starts : (k : ℕ) → k < segments t → (at t k).start ≤ (at t (k + 1)).start

-- a location, brought between the train's rear and its head
unfoldable pub clamp : (rear head location : ℕ) → ℕ
clamp rear head location = min head (max rear location)

-- where segment k begins under the train
abbrev pub start_under : Track → (rear head k : ℕ) → ℕ
start_under t rear head k = clamp rear head (at t k).start

-- the feet of the first n segments
unfoldable pub feet_under : Track → (rear head n : ℕ) → ℕ
feet_under t rear head zero = 0
feet_under t rear head (suc n) = feet_under t rear head n + feet t rear head n

pub record Clamped (t : Track) (rear head : ℕ) : Type 0 where
  -- a segment's feet reach from where it begins under the train to where the next does
  pub each : (k : ℕ) → k < segments t → feet t rear head k ≡ start_under t rear head (k + 1) - start_under t rear head k
  -- so the feet of many reach from the first to the next
  pub together : (n : ℕ) → n ≤ segments t → feet_under t rear head n ≡ start_under t rear head n - start_under t rear head 0
  -- and add up to no more than the train has
  pub at_most : (n : ℕ) → n ≤ segments t → feet_under t rear head n ≤ head - rear

unfoldable pub FeetClamped : Type 0
FeetClamped = (t : Track) (rear head : ℕ) → Rising t → rear ≤ head → Clamped t rear head
