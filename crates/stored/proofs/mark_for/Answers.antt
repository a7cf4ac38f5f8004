use Rattle.held.proofs.Sizes.{mark_some}
use Rattle.stored.proofs.mark_for.Goals as goal

pub returns : goal.returns
returns c = mark_some c.args.count c.if-count-eq0.false
