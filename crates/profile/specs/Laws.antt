-- For the code: that its constants are the table's.
use Rattle.std.proofs.Common.{refl, arith}
use Rattle.table.specs.Sizes.{Sizes}
use Rattle.profile.specs.Profile.{size, fewest, most, segments}

pub sizes : Sizes segments size fewest most
sizes = record { is = refl; least = refl; greatest = refl; some = omega arith; small = omega arith }
