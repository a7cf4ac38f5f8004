use mathlib.Core.Path.{refl}
use Rattle.writes.specs.Written.{are_listed}
use Rattle.writes.proofs.are_listed.Goals as goal

pub returns : goal.returns
unfolding are_listed
returns c = refl
