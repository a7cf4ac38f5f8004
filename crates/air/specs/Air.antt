-- What the rules change of a brake, and what a sample leaves beside it. Definitions only.
use Rattle.std.specs.Prelude.{ℕ, true}
use Rattle.brake.specs.declared.State.{State}
use Rattle.brake.specs.declared.Choice.{Choice}
use Rattle.brake.specs.Rear.{Heard}
use Rattle.brake.specs.declared.Brake.{Brake}
use Rattle.air.specs.declared.Air.{Air}

-- of what is held, all but the last sample's readings
abbrev pub air_of : Brake → Air
air_of k = record { state = k.state; hold = k.hold; a = k.a; b = k.b; equalization = k.equalization; fall = k.fall }

-- ---- only the fields that a rule names change: k with another value in one field

module _ (k : Air) where
  abbrev pub with_state : State → Air
  with_state x = record { state = x; hold = k.hold; a = k.a; b = k.b; equalization = k.equalization; fall = k.fall }

  abbrev pub with_hold : ℕ → Air
  with_hold x = record { state = k.state; hold = x; a = k.a; b = k.b; equalization = k.equalization; fall = k.fall }

  abbrev pub with_a : ℕ → Air
  with_a x = record { state = k.state; hold = k.hold; a = x; b = k.b; equalization = k.equalization; fall = k.fall }

  abbrev pub with_b : ℕ → Air
  with_b x = record { state = k.state; hold = k.hold; a = k.a; b = x; equalization = k.equalization; fall = k.fall }

  abbrev pub with_equalization : ℕ → Air
  with_equalization x = record { state = k.state; hold = k.hold; a = k.a; b = k.b; equalization = x; fall = k.fall }

  abbrev pub with_fall : ℕ → Air
  with_fall x = record { state = k.state; hold = k.hold; a = k.a; b = k.b; equalization = k.equalization; fall = x }

  -- the brake, with last front, last rear and last time of an accepted sample, the choice in force and when the rear was last present
  abbrev pub with_last : ℕ → ℕ → ℕ → Choice → Heard → Brake
  with_last front rear time choice heard = record {
    state = k.state;
    hold = k.hold;
    a = k.a;
    b = k.b;
    equalization = k.equalization;
    fall = k.fall;
    last_front = front;
    last_rear = rear;
    last_time = time;
    sampled = true;
    choice = choice;
    heard = heard;
  }
