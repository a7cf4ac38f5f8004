use Rattle.writes.specs.Written.{profile_written}
use Rattle.writes.proofs.Told.{told_of}
use Rattle.writes.proofs.profile.Goals as goal

pub returns : goal.returns
unfolding profile_written
returns c = told_of c.verdict_number.ensures c.write.ensures
