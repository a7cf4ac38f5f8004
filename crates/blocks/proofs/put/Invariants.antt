use Rattle.blocks.proofs.Putting.{Put}
use Rattle.blocks.proofs.put.Given as goal

-- the first k blocks stand before the rest of what was lent
abbrev pub invariant-loop-k : goal.invariant-loop-k
invariant-loop-k l = Put l.b l.fn.out l.k l.out
