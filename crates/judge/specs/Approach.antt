-- An approach: what a prediction reads, and what it then is. Every other crate's prediction and call cites this one. Definitions only.
use Rattle.std.specs.Prelude.{List, ℕ}
use Rattle.consist.specs.declared.Consist.{Consist}
use Rattle.targets.specs.Targets.{most, count, locations_in, speeds_in}
use Rattle.track.specs.declared.Track.{Track}
use Rattle.walk.specs.declared.Prediction.{Prediction}
use Rattle.step.specs.Curve.{force_at, penalty_curve}
use Rattle.step.specs.Step.{Ground, ground_of}
use Rattle.walk.specs.Walk.{Arrival, arrival_for, predict_of}
use Rattle.judge.specs.Judge.{cause_of}

-- "the pressures are A and B as the walk starts"; the consist has the application time in force
pub record Approach : Type 0 where
  pub consist : Consist
  pub a : ℕ
  pub b : ℕ
  pub track : Track
  pub head : ℕ
  pub speed : ℕ

-- "Brake force F", by the penalty's curve: "It starts after the update, with A, B and clock t = 0"
abbrev pub force : Approach → ℕ → ℕ
force x = force_at x.consist.rated (penalty_curve x.consist x.a x.b)

-- "Train from head minus length to head. G and C are the sums .. under the train"; with blocks, "averaged by weight"
abbrev pub ground : Approach → Ground
ground x = ground_of x.track x.consist

-- "The location for a target speed"; for the stop, 0
unfoldable pub arrival_of : Approach → ℕ → Arrival
arrival_of x u = arrival_for x.consist (force x) (ground x) x.head x.speed u

-- the stop and the location for each target speed
unfoldable pub prediction_of : Approach → (speeds : List ℕ) → Prediction
prediction_of x speeds = predict_of x.consist (force x) (ground x) x.head x.speed speeds

-- "a call is the prediction's own": the cause that it calls for before the targets that these bytes are, 0 for none
unfoldable pub call_of : Approach → (targets : List ℕ) → ℕ
call_of x t =
    let speeds = speeds_in t most in
    cause_of x.consist.offset x.head x.speed (count t) (locations_in t most) speeds (prediction_of x speeds).arrivals
