use Rattle.bits.proofs.Bit.{same_bit}
use Rattle.decision.proofs.Decision.put.Goals as goal

pub returns : goal.returns
returns c = rw (c.put_fields.ensures, c.mark_of.ensures, same_bit c.args.self.now.penalty)
