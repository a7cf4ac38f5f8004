-- `air::fall_emergency` meets its contract. Assumes nothing.
use native.Mathlib.Omega.{arith}
use Rattle.whole.specs.Ceiling.{ceil_div}
use Rattle.air.proofs.fall_emergency.Goals as goal

pub overflow_cast-result : goal.overflow_cast-result
unfolding ceil_div
overflow_cast-result c = omega (arith, c.ceil_div.ensures, c.saturating_sub.ensures)
