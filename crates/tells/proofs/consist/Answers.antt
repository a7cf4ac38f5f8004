use Rattle.std.proofs.Common.{◌∙◌}
use Rattle.consist.specs.Consist.{none, read_consist}
use Rattle.tells.specs.Judged.{consist_judged}
use Rattle.tells.proofs.Told.{number_is}
use Rattle.tells.proofs.consist.Goals as goal

pub returns : goal.returns
unfolding consist_judged read_consist
returns c = c.number.ensures ∙ number_is none c.read.result (λ i. (c.read.ensures i).0)
