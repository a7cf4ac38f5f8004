-- Document 01's location for a target speed, to the letter, "the head when q first is at or below that speed squared", beside the one that document 02's
-- R-2 puts in its place. Statements; proofs/Crossing.antt proves them.
use Rattle.std.specs.Prelude.{◌≡◌, true, ℕ, zero, suc, ◌*◌, ◌≤◌, leb}
use Rattle.record.specs.Location.{farthest}
use Rattle.consist.specs.declared.Consist.{Consist}
use Rattle.step.specs.declared.Run.{Run}
use Rattle.step.specs.Step.{steps_most, Ground, step_of}
use Rattle.walk.specs.Walk.{Arrival, never, arrival_by, start, arrival_for, location_of}
use Rattle.judge.specs.Judge.{is_judged, is_called}
use Rattle.laws.specs.Compare.{NotShort}

unfoldable pub crossing_to : Consist → (ℕ → ℕ) → Ground → ℕ → ℕ → Run → Arrival
crossing_to c force ground limit zero r = arrival_by (leb r.q limit) r.head never
crossing_to c force ground limit (suc n) r =
    let rest : Arrival = crossing_to c force ground limit n (step_of c force ground r) in
    arrival_by (leb r.q limit) r.head rest

unfoldable pub crossing_for : Consist → (ℕ → ℕ) → Ground → (head v u : ℕ) → Arrival
crossing_for c force ground head v u = crossing_to c force ground (u * u) steps_most (start head v)

-- of a walk from the head at the speed v
pub record Crossed (c : Consist) (force : ℕ → ℕ) (ground : Ground) (head v : ℕ) : Type 0 where
  -- "For a stop nothing changes"
  pub stop_stands : arrival_for c force ground head v 0 ≡ crossing_for c force ground head v 0
  -- the location for a target speed is never short of document 01's
  pub not_short : (u : ℕ) → NotShort (arrival_for c force ground head v u) (crossing_for c force ground head v u)
  -- so what document 01 calls for is called for still
  pub still_called : head ≤ farthest → (offset target u : ℕ) →
      is_called offset head v target u (location_of (crossing_for c force ground head v u)) ≡ true →
      is_called offset head v target u (location_of (arrival_for c force ground head v u)) ≡ true
  -- "A walk cut at its step limit with q above 0 has no location", for any speed: one is missing exactly where the stop is
  pub missing : (u : ℕ) → arrival_for c force ground head v 0 ≡ never → arrival_for c force ground head v u ≡ never
  pub only_then : (u : ℕ) → arrival_for c force ground head v u ≡ never → arrival_for c force ground head v 0 ≡ never
  -- and then every judged target is called for, whatever its speed
  pub cut_calls : arrival_for c force ground head v 0 ≡ never → (offset target u : ℕ) → target ≤ farthest → is_judged head target ≡ true →
      is_called offset head v target u (location_of (arrival_for c force ground head v u)) ≡ true

unfoldable pub Crossings : Type 0
Crossings = (c : Consist) (force : ℕ → ℕ) (ground : Ground) (head v : ℕ) → Crossed c force ground head v
