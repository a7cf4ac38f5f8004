-- What the air of an emergency comes to, of a brake that a session may hold. Assumes nothing.
use mathlib.Core.Bool.{Bool, true, false, cond}
use Prim.Native.Nat.{◌≤◌}
use native.Mathlib.Omega.{arith}
use Rattle.consist.specs.declared.Consist.{Consist}
use Rattle.brake.specs.declared.Brake.{Brake}
use Rattle.brake.specs.Sound.{most_b, Sound}
use Rattle.reading.specs.Readings.{nominal_of}
use Rattle.air.specs.declared.Air.{Air}
use Rattle.air.specs.Rules.{start_emergency}
use Rattle.air.specs.Emergency.{in_emergency, emergency_air}

module _ (c : Consist) where
  -- A is at most set, B at most what a brake may hold
  abbrev Within : Air → Type 0
  Within k = (k.a ≤ c.set) × (k.b ≤ most_b)

  either : (t : Bool) (x y : Air) → Within x → Within y → Within (cond t x y)
  either true x y h l = h
  either false x y h l = l

  pub emergency_within : (k : Brake) → Sound c k → Within (emergency_air c k)
  unfolding emergency_air start_emergency nominal_of
  emergency_within k s = either (in_emergency k.state) _ _ (s.a, s.b) (omega (arith, s.a), s.b)
