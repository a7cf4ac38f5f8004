use Rattle.table.proofs.Judging.{Judged}
use Rattle.table.proofs.rows.keep.Given as goal

-- the records before k are judged, and `before` is the key of the last of them
abbrev pub invariant-loop-k : goal.invariant-loop-k
invariant-loop-k g l = Judged g.T.Item.Record.layout l.n (g.T.Rows.nth l.rows) (g.T.Rows.clean l.rows) l.k l.good l.before
