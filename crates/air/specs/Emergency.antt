-- The air of an emergency behind the penalty, by document 02's R-5. Definitions only.
use Rattle.std.specs.Prelude.{Bool, true, false, cond}
use Rattle.consist.specs.declared.Consist.{Consist}
use Rattle.brake.specs.declared.State.{State}
use Rattle.brake.specs.declared.State.TheVariants.{Charged, ApplyingService, HoldingService, ApplyingEmergency, HoldingEmergency, Charging}
use Rattle.brake.specs.declared.Brake.{Brake}
use Rattle.reading.specs.Readings.{nominal_of}
use Rattle.air.specs.declared.Air.{Air}
use Rattle.air.specs.Air.{air_of}
use Rattle.air.specs.Rules.{start_emergency}

-- "the state is 3 or 4"
abbrev pub in_emergency : State → Bool
in_emergency Charged = false
in_emergency ApplyingService = false
in_emergency HoldingService = false
in_emergency ApplyingEmergency = true
in_emergency HoldingEmergency = true
in_emergency Charging = false

-- "combine A and find equalization by the emergency rule, unless the state is 3 or 4, where A and the held equalization are used as they are";
-- of a brake after an update, whose last front and last rear are the sample's
unfoldable pub emergency_air : Consist → Brake → Air
emergency_air c k = cond (in_emergency k.state) (air_of k) (start_emergency (air_of k) (nominal_of c.set k.last_front k.last_rear))
