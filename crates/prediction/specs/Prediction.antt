-- The predictions that a sample makes, of the penalty and behind it of emergency, and what they answer. Definitions only.
use Rattle.std.specs.Prelude.{List, cond, ℕ, eqb}
use Rattle.consist.specs.declared.Consist.{Consist}
use Rattle.targets.specs.Targets.{most, speeds_in}
use Rattle.sample.specs.declared.Sample.{Sample}
use Rattle.brake.specs.declared.Brake.{Brake}
use Rattle.track.specs.declared.Track.{Track}
use Rattle.track.specs.Track.{lay_of}
use Rattle.air.specs.Emergency.{emergency_air}
use Rattle.judge.specs.Judge.{standing}
use Rattle.judge.specs.Emergency.{Emergency, emergency_stop, emergency_call_of}
use Rattle.judge.specs.Approach.{Approach, prediction_of, call_of}
use Rattle.prediction.specs.declared.Outcome.{Outcome}

-- what the prediction of a sample reads, by the brake after it, over a track
abbrev pub approach_over : Consist → Brake → Sample → Track → Approach
approach_over c k m t = record { consist = c; a = k.a; b = k.b; track = t; head = m.head; speed = m.speed }

-- over the profile lent with it
abbrev pub approach_of : Consist → Brake → Sample → List ℕ → Approach
approach_of c k m p = approach_over c k m (lay_of p)

-- the same of emergency air, over a track
abbrev pub emergency_over : Consist → Brake → Sample → Track → Emergency
emergency_over c k m t =
    let air = emergency_air c k in
    record {
      approach = record { consist = c; a = air.a; b = air.b; track = t; head = m.head; speed = m.speed };
      equalization = air.equalization;
    }

abbrev pub emergency_of : Consist → Brake → Sample → List ℕ → Emergency
emergency_of c k m p = emergency_over c k m (lay_of p)

-- "From the sample that calls the penalty on": what is told of an emergency behind the penalty with this cause; 0 before it
abbrev pub behind : (cause told : ℕ) → ℕ
behind cause told = cond (eqb cause 0) 0 told

-- the stop, and the cause that is called for before the targets that these bytes are; and both of emergency, where a penalty stood or is called for
abbrev pub outcome_of : Approach → Emergency → (stood : ℕ) → (targets : List ℕ) → Outcome
outcome_of x e stood t = record {
  stop = (prediction_of x (speeds_in t most)).stop;
  called = call_of x t;
  emergency_stop = behind (standing stood (call_of x t)) (emergency_stop e);
  emergency_called = behind (standing stood (call_of x t)) (emergency_call_of e t);
}

-- the same of a sample, over a track
abbrev pub outcome_over : Consist → Brake → Sample → Track → (stood : ℕ) → (targets : List ℕ) → Outcome
outcome_over c k m t stood targets = outcome_of (approach_over c k m t) (emergency_over c k m t) stood targets
