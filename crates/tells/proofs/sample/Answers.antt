use Rattle.std.proofs.Common.{◌∙◌}
use Rattle.sample.specs.Sample.{none, read_sample}
use Rattle.tells.specs.Judged.{sample_judged}
use Rattle.tells.proofs.Told.{number_is}
use Rattle.tells.proofs.sample.Goals as goal

pub returns : goal.returns
unfolding sample_judged read_sample
returns c = c.number.ensures ∙ number_is none c.read.result (λ i. (c.read.ensures i).0)
