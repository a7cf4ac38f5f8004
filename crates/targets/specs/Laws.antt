-- For the code: that its constants are the table's.
use Rattle.std.proofs.Common.{refl, arith}
use Rattle.table.specs.Sizes.{Sizes}
use Rattle.targets.specs.Targets.{size, fewest, most, targets}

pub sizes : Sizes targets size fewest most
sizes = record { is = refl; least = refl; greatest = refl; some = omega arith; small = omega arith }
