use Rattle.std.proofs.Common.{◌≡◌}
use Rattle.bits.proofs.UpTo.{filled}
use Rattle.blocks.specs.Blocks.{most}
use Rattle.blocks.proofs.Bytes.{column}
use Rattle.blocks.proofs.Blocks.laid.Given as goal

-- k places of each array are filled
abbrev pub invariant-loop-k : goal.invariant-loop-k
invariant-loop-k l = (l.lengths ≡ filled (column l.s 0) 0 most l.k) × (l.weights ≡ filled (column l.s 1) 0 most l.k)
