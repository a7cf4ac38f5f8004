use Rattle.table.proofs.Writing.{Put}
use Rattle.table.proofs.rows.write.Given as goal

-- the records keep the rules, there is room for them, and the first k stand at the front of `out`
abbrev pub invariant-loop-k : goal.invariant-loop-k
invariant-loop-k g l = Put g.T.Item.Record.layout (g.T.Rows.nth l.rows) (g.T.Rows.whole l.rows) l.n l.fn.out l.k l.out
