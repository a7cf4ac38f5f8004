-- The fall of a service application. Assumes nothing.
use Prim.Native.Nat.{suc, ◌*◌, ◌≤◌}
use native.Mathlib.Nat.{div-lt_iff_lt-mul, le_of_suc-le-suc}
use native.Mathlib.Omega.{arith}
use Rattle.consist.specs.declared.Consist.{Consist}
use Rattle.consist.specs.Sound as consist
use Rattle.brake.specs.Sound.{most_fall}
use Rattle.air.specs.Rules.{fall_service}

pub service_fall_most : (c : Consist) → consist.Sound c → fall_service c ≤ most_fall
service_fall_most c s =
    le_of_suc-le-suc ((div-lt_iff_lt-mul {k = 7 * c.application} {x = 2000 * c.set} {y = suc most_fall} (omega arith)).1 (omega arith))
