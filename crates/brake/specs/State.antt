-- The six states and their numbers. Definitions only.
use Rattle.std.specs.Prelude.{ℕ, [], ◌∷◌, get_or}
use Rattle.brake.specs.declared.State.{State}
use Rattle.brake.specs.declared.State.TheVariants.{Charged, ApplyingService, HoldingService, ApplyingEmergency, HoldingEmergency, Charging}

-- "States: 0 charged, 1 applying service, 2 holding service, 3 applying emergency, 4 holding emergency, 5 charging."
abbrev pub state_number : State → ℕ
state_number Charged = 0
state_number ApplyingService = 1
state_number HoldingService = 2
state_number ApplyingEmergency = 3
state_number HoldingEmergency = 4
state_number Charging = 5

-- the state of a number; a number past 5 is no state's, and counts as 5
abbrev pub state_of : ℕ → State
state_of n = get_or (Charged ∷ ApplyingService ∷ HoldingService ∷ ApplyingEmergency ∷ HoldingEmergency ∷ []) n Charging
