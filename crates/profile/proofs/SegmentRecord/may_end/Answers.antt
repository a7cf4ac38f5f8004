use Rattle.std.proofs.Common.{rules}
use Rattle.profile.proofs.Sound.{ends_is}
use Rattle.profile.proofs.SegmentRecord.may_end.Goals as goal

pub returns : goal.returns
returns c = ends_is c.args.self.now (search rules)
