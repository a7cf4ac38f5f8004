-- `states::Rules::ruled` meets its contract: there is room for what B gains. Assumes nothing.
use Rattle.update.proofs.Rooms.{service_room, emergency_room}
use Rattle.update.proofs.states.Rules.ruled.Goals as goal

pub in_applying_service-requires : goal.in_applying_service-requires
in_applying_service-requires c = service_room _ _ c.args.self.now.reading c.args.self.now.sound c.requires c.in-ApplyingService.is

pub in_applying_emergency-requires : goal.in_applying_emergency-requires
in_applying_emergency-requires c = emergency_room _ _ c.args.self.now.reading c.args.self.now.sound c.requires c.in-ApplyingEmergency.is
