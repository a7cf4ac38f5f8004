use Rattle.writes.specs.Written.{targets_written}
use Rattle.writes.proofs.Told.{told_of}
use Rattle.writes.proofs.targets.Goals as goal

pub returns : goal.returns
unfolding targets_written
returns c = told_of c.verdict_number.ensures c.write.ensures
