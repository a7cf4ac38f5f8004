use Rattle.std.proofs.Common.{◌≡◌, length}
use Rattle.table.specs.Table.{every}
use Rattle.blocks.specs.Steps.{empty_at}
use Rattle.blocks.proofs.Blocks.is_empty.Given as goal

-- the places so far are looked at
abbrev pub invariant-loop-length : goal.invariant-loop-length
invariant-loop-length l = l.right ≡ every (length l.yielded) (empty_at l.self.lengths l.self.weights)
