-- What a caller may count on in targets that are accepted: `judged_sound` of proofs/Sound.antt.
use Rattle.std.specs.Prelude.{ℕ, ◌≤◌, ◌<◌}
use Rattle.record.specs.Location.{farthest}
use Rattle.targets.specs.declared.Target.{Target}
use Rattle.targets.specs.Targets as targets

-- a target in range
pub record Ranged (g : Target) : Type 0 where
  pub location : g.location ≤ farthest
  pub speed : g.speed ≤ targets.fastest

-- n records
pub record Sound (n : ℕ) (f : ℕ → Target) : Type 0 where
  pub most : n ≤ targets.most
  pub each : (k : ℕ) → k < n → Ranged (f k)
  pub rising : (k m : ℕ) → k < m → m < n → (f k).location < (f m).location
