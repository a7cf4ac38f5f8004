use Rattle.std.proofs.Common.{◌≡◌}
use Rattle.table.specs.Table.{every}
use Rattle.blocks.specs.Blocks.{place_right}
use Rattle.blocks.proofs.Blocks.each_right.Given as goal

-- the places before k are judged
abbrev pub invariant-loop-k : goal.invariant-loop-k
invariant-loop-k l = l.right ≡ every l.k (place_right l.self)
