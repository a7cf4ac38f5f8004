-- Document 02's R-3: what a sample shows the learner, and the time in force. Definitions only.
use Rattle.std.specs.Prelude.{Bool, true, false, ℕ}
use Rattle.consist.specs.declared.Consist.{Consist}
use Rattle.sample.specs.declared.Sample.{Sample}
use Rattle.brake.specs.declared.State.{State}
use Rattle.brake.specs.declared.State.TheVariants.{Charged, ApplyingService, HoldingService, ApplyingEmergency, HoldingEmergency, Charging}
use Rattle.brake.specs.declared.Brake.{Brake}
use Rattle.trend.specs.Result.{Learnt, Nothing, Time}
use Rattle.learn.specs.declared.Shown.{Shown}

-- "in a service application": state 1 or 2
abbrev pub is_service : State → Bool
is_service Charged = false
is_service ApplyingService = true
is_service HoldingService = true
is_service ApplyingEmergency = false
is_service HoldingEmergency = false
is_service Charging = false

-- the brakes after the update; "the rear pressure", this sample's own
abbrev pub shown_of : Consist → Brake → Sample → Shown
shown_of c k m = record {
  service = is_service k.state;
  set = c.set;
  equalization = k.equalization;
  time = m.time;
  front = m.front;
  rear = m.rear;
}

-- a consist with another application time
abbrev pub timed : Consist → ℕ → Consist
timed c ms = record {
  cars = c.cars;
  axles = c.axles;
  weight = c.weight;
  length = c.length;
  rated = c.rated;
  application = ms;
  recharge = c.recharge;
  set = c.set;
  offset = c.offset;
  blocks = c.blocks;
}

-- "The learnt time serves from the next sample."
abbrev pub in_force : Consist → Learnt → Consist
in_force c Nothing = c
in_force c (Time ms) = timed c ms
