-- The numbers of the states. Assumes nothing.
use Prim.Native.Nat.{◌≤◌}
use native.Mathlib.Omega.{arith}
use Rattle.brake.specs.declared.State.{State}
use Rattle.brake.specs.declared.State.TheVariants.{Charged, ApplyingService, HoldingService, ApplyingEmergency, HoldingEmergency, Charging}
use Rattle.brake.specs.State.{state_number}

pub number_most : (state : State) → state_number state ≤ 5
number_most Charged = omega arith
number_most ApplyingService = omega arith
number_most HoldingService = omega arith
number_most ApplyingEmergency = omega arith
number_most HoldingEmergency = omega arith
number_most Charging = omega arith
