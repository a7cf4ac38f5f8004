-- An emergency behind the penalty, by document 02's R-5: what its prediction reads, and what it then is. Definitions only.
use Rattle.std.specs.Prelude.{List, ℕ}
use Rattle.targets.specs.Targets.{most, count, locations_in, speeds_in}
use Rattle.step.specs.Curve.{force_at, emergency_curve}
use Rattle.walk.specs.Walk.{Arrival, arrival_for, location_of}
use Rattle.judge.specs.Judge.{emergency_cause_of}
use Rattle.judge.specs.Approach.{Approach, ground}

-- an approach whose A is the one that the curve takes, combined or not, and the equalization that it falls to
pub record Emergency : Type 0 where
  pub approach : Approach
  pub equalization : ℕ

-- "Brake force F", by the emergency's curve
abbrev pub emergency_force : Emergency → ℕ → ℕ
emergency_force e = let x = e.approach in force_at x.consist.rated (emergency_curve x.a x.b e.equalization)

-- "predict a stop by emergency air too"
unfoldable pub emergency_arrival : Emergency → Arrival
emergency_arrival e = let x = e.approach in arrival_for x.consist (emergency_force e) (ground x) x.head x.speed 0

-- "its location the emergency stop"
abbrev pub emergency_stop : Emergency → ℕ
emergency_stop e = location_of (emergency_arrival e)

-- "a call of emergency is there the curve's own": the cause that it calls for before the targets that these bytes are, 0 for none
unfoldable pub emergency_call_of : Emergency → (targets : List ℕ) → ℕ
emergency_call_of e t = emergency_cause_of e.approach.head (count t) (locations_in t most) (speeds_in t most) (emergency_stop e)
