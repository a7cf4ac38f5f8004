-- What is held: as the paper lists it, and a new session's brake. Definitions only.
use Rattle.std.specs.Prelude.{ℕ, Bool, false, ◌&&◌, List, [], ◌∷◌, eqb}
use Rattle.bits.specs.Fields.{bit}
use Rattle.consist.specs.declared.Consist.{Consist}
use Rattle.brake.specs.declared.State.TheVariants.{Charged}
use Rattle.brake.specs.declared.Choice.{Choice}
use Rattle.brake.specs.declared.Brake.{Brake}
use Rattle.brake.specs.State.{state_number}
use Rattle.brake.specs.Rear.{Never, choice_number, heard_number}

-- "Held: state, .. hold (pipe pressure), A (average auxiliary reservoir), B (average cylinder), equalization, fall per second,
-- last front, last rear, last time", and whether a sample was accepted; the set pressure is the consist's. Of R-7 the choice and when the rear was
-- last present.
abbrev pub brake_told : Brake → List ℕ
brake_told k =
    state_number k.state
    ∷ k.hold
    ∷ k.a
    ∷ k.b
    ∷ k.equalization
    ∷ k.fall
    ∷ k.last_front
    ∷ k.last_rear
    ∷ k.last_time
    ∷ bit k.sampled
    ∷ choice_number k.choice
    ∷ heard_number k.heard
    ∷ []

-- "Opening gives state 0, hold = A = set, B = 0, fall 0, equalization 0."; R-7: "the old choice in the opening", or the default; there was no present rear yet
abbrev pub at_opening : Consist → Choice → Brake
at_opening c choice = record {
  state = Charged;
  hold = c.set;
  a = c.set;
  b = 0;
  equalization = 0;
  fall = 0;
  last_front = 0;
  last_rear = 0;
  last_time = 0;
  sampled = false;
  choice = choice;
  heard = Never;
}

-- what is held is what an opening gives, whatever its choice, whether or not a sample was accepted
unfoldable pub is_at_opening : Consist → Brake → Bool
is_at_opening c k =
    eqb (state_number k.state) 0
    && eqb k.hold c.set
    && eqb k.a c.set
    && eqb k.b 0
    && eqb k.equalization 0
    && eqb k.fall 0
    && eqb k.last_front 0
    && eqb k.last_rear 0
    && eqb k.last_time 0
    && eqb (heard_number k.heard) 0
