use Rattle.std.proofs.Common.{◌≡◌}
use Rattle.table.specs.Table.{every}
use Rattle.blocks.specs.Blocks.{spare_zero}
use Rattle.blocks.proofs.is_laid_out.Given as goal

-- the blocks before k have no spare bit
abbrev pub invariant-loop-k : goal.invariant-loop-k
invariant-loop-k l = l.clean ≡ every l.k (spare_zero l.s)
