-- A new session's brake has the invariant. Assumes nothing.
use native.Mathlib.Omega.{arith}
use Rattle.consist.specs.declared.Consist.{Consist}
use Rattle.consist.specs.Sound as consist
use Rattle.brake.specs.declared.Choice.{Choice}
use Rattle.brake.specs.Brake.{at_opening}
use Rattle.brake.specs.Sound.{Sound}

pub at_opening_sound : (c : Consist) (choice : Choice) → consist.Sound c → Sound c (at_opening c choice)
at_opening_sound c choice s = omega arith
