use Rattle.tells.proofs.Told.{told_in}
use Rattle.tells.proofs.decision.Goals as goal

pub returns : goal.returns
returns c = told_in _ c.number.ensures c.put_decision.ensures
