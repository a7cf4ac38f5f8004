-- What is told of a brake tells the brake: no two are told alike. Assumes nothing.
use mathlib.Core.Path.{◌≡◌, refl, sym, ap, ◌∙◌}
use mathlib.Core.Bool.{Bool}
use mathlib.Core.List.{List}
use Prim.Native.Nat.{ℕ}
use lib.Dec.{eqb}
use lib.ListN.{get_or}
use Rattle.bits.proofs.Bit.{of_bit}
use Rattle.brake.specs.declared.State.{State}
use Rattle.brake.specs.declared.State.TheVariants.{Charged, ApplyingService, HoldingService, ApplyingEmergency, HoldingEmergency, Charging}
use Rattle.brake.specs.declared.Choice.{Choice}
use Rattle.brake.specs.declared.Brake.{Brake}
use Rattle.brake.specs.State.{state_number, state_of}
use Rattle.brake.specs.Rear.{Heard, choice_of, heard_of}
use Rattle.brake.specs.Brake.{brake_told}
use Rattle.brake.proofs.Rear.{choice_back, heard_back}

-- ---- the state

-- a state is that of its number
pub state_back : (s : State) → state_of (state_number s) ≡ s
state_back Charged = refl
state_back ApplyingService = refl
state_back HoldingService = refl
state_back ApplyingEmergency = refl
state_back HoldingEmergency = refl
state_back Charging = refl

pub state_one : (s t : State) → state_number s ≡ state_number t → s ≡ t
state_one s t h = sym (state_back s) ∙ ap state_of h ∙ state_back t

-- ---- the brake

abbrev brake_with : State → List ℕ → Bool → Choice → Heard → Brake
brake_with state ns sampled choice heard = record {
  state = state;
  hold = get_or ns 1 0;
  a = get_or ns 2 0;
  b = get_or ns 3 0;
  equalization = get_or ns 4 0;
  fall = get_or ns 5 0;
  last_front = get_or ns 6 0;
  last_rear = get_or ns 7 0;
  last_time = get_or ns 8 0;
  sampled = sampled;
  choice = choice;
  heard = heard;
}

brake_at : List ℕ → Brake
brake_at ns = brake_with (state_of (get_or ns 0 0)) ns (eqb (get_or ns 9 0) 1) (choice_of (get_or ns 10 0)) (heard_of (get_or ns 11 0))

brake_back : (k : Brake) → brake_at (brake_told k) ≡ k
unfolding brake_at
brake_back k = rw (state_back k.state, of_bit k.sampled, choice_back k.choice, heard_back k.heard)

pub brake_one : (j k : Brake) → brake_told j ≡ brake_told k → j ≡ k
brake_one j k h = sym (brake_back j) ∙ ap brake_at h ∙ brake_back k
