use Rattle.std.proofs.Common.{◌∙◌}
use Rattle.table.specs.Table.{judge}
use Rattle.tells.specs.Judged.{targets_judged}
use Rattle.tells.proofs.Told.{number_is}
use Rattle.tells.proofs.targets.Goals as goal

pub returns : goal.returns
unfolding targets_judged judge
returns c = c.number.ensures ∙ number_is 0 c.judge.result (λ i. (c.judge.ensures i).0)
