-- How one pass keeps the locations for as many speeds as there may be targets. Definitions only.
use Rattle.std.specs.Prelude.{◌≡◌, cond, List, ℕ, ◌*◌, ◌≤◌, ◌<◌, leb, eqb, length, get_or, replicate}
use Rattle.record.specs.Location.{no_stop}
use Rattle.targets.specs.Targets.{most}
use Rattle.step.specs.declared.Run.{Run}
use Rattle.walk.specs.declared.Band.{Band}
use Rattle.walk.specs.declared.Prediction.{Prediction}

-- an arrival that is open, `no_stop`, is closed at the run's head; one that is closed stays
abbrev pub closed_at : Run → ℕ → ℕ
closed_at r arrival = cond (eqb arrival no_stop) r.head arrival

-- the arrival for the speed u as the run comes by: closed where the run is slow enough; and open, though it was closed, where it is above
unfoldable pub mark_of : Run → ℕ → ℕ → ℕ
mark_of r u arrival = cond (leb r.q (u * u)) (closed_at r arrival) no_stop

pub record Marked (r : Run) (speeds before after : List ℕ) : Type 0 where
  pub size : length after ≡ most
  pub each : (i : ℕ) → i < most → get_or after i 0 ≡ mark_of r (get_or speeds i 0) (get_or before i 0)

-- one arrival, for a speed whose square is s, stays as it is while q is above `low` and not above `high`
pub record Kept (b : Band) (s arrival : ℕ) : Type 0 where
  pub opened : arrival ≡ no_stop → s ≤ b.low
  pub closed : (arrival ≡ no_stop → ⊥) → b.high ≤ s

-- a band inside another
pub record Inside (one other : Band) : Type 0 where
  pub low : other.low ≤ one.low
  pub high : one.high ≤ other.high

-- each of them does
pub record Quiet (speeds arrivals : List ℕ) (b : Band) : Type 0 where
  pub each : (i : ℕ) → i < most → Kept b (get_or speeds i 0 * get_or speeds i 0) (get_or arrivals i 0)

abbrev pub prediction_with : ℕ → List ℕ → Prediction
prediction_with stop arrivals = record { stop = stop; arrivals = arrivals }

-- what a walk answers at its end: "A walk cut at its step limit with q above 0 has no location."
abbrev pub ended_with : Run → List ℕ → Prediction
ended_with r arrivals = cond (eqb r.q 0) (prediction_with r.head arrivals) (prediction_with no_stop (replicate most no_stop))
