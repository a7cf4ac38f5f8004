use Rattle.std.proofs.Common.{◌≡◌, get_or}
use Rattle.bits.proofs.UpTo.{filled}
use Rattle.blocks.specs.Blocks.{most}
use Rattle.blocks.proofs.filled.Given as goal

-- k places are filled
abbrev pub invariant-loop-k : goal.invariant-loop-k
invariant-loop-k l = l.a ≡ filled (λ i. get_or l.list i 0) 0 most l.k
