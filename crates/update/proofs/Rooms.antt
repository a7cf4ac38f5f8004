-- What B comes to in a fall. Assumes nothing.
use mathlib.Core.Path.{◌≡◌, subst}
use Prim.Native.Nat.{◌≤◌}
use native.Mathlib.Omega.{arith}
use Rattle.consist.specs.declared.Consist.{Consist}
use Rattle.consist.specs.Sound as consist
use Rattle.brake.specs.declared.State.{State}
use Rattle.brake.specs.declared.State.TheVariants.{ApplyingService, ApplyingEmergency}
use Rattle.brake.specs.Sound.{most_b, Balance}
use Rattle.reading.specs.declared.Reading.{Reading}
use Rattle.air.specs.declared.Air.{Air}
use Rattle.air.specs.Rules.{fall_in_service, fall_in_emergency}
use Rattle.update.specs.Rules.{level_of}
use Rattle.update.specs.Sound.{AirSound}

-- the balance, in a state that is known
pub balanced : (c : Consist) (k : Air) (state : State) → k.state ≡ state → AirSound c k → Balance state c.set k.a k.b k.equalization
balanced c k state e s = subst (λ (state : State). Balance state c.set k.a k.b k.equalization) e s.balance

module _ (c : Consist) (k : Air) (r : Reading) (g : consist.Sound c) (s : AirSound c k) where
  pub service_room : k.state ≡ ApplyingService → (fall_in_service k (level_of k r) r.elapsed).b ≤ most_b
  unfolding fall_in_service
  service_room e =
      let b = balanced c k ApplyingService e s in
      omega arith

  pub emergency_room : k.state ≡ ApplyingEmergency → (fall_in_emergency k r.elapsed).b ≤ most_b
  unfolding fall_in_emergency
  emergency_room e =
      let b = balanced c k ApplyingEmergency e s in
      omega arith
