use Rattle.std.proofs.Common.{◌≡◌, ◌∙◌, sym, ap, arith, refl, not}
use Rattle.table.specs.Table.{closed}
use Rattle.table.proofs.Judging.{judged_next, lawful_wrong, lawful_judged, closed_last}
use Rattle.table.proofs.Keeping.{counted_is, none_last}
use Rattle.table.proofs.rows.keep.Goals as goal
use Rattle.table.proofs.rows.keep.Goals.{then-n-eq0, else-n-eq0}

pub returns-then-not-are_whole-FEWEST : goal.returns-then-not-are_whole-FEWEST
returns-then-not-are_whole-FEWEST g c =
    let z = g.met.T.Item.Record.sizes in
    rw (← c.are_whole.ensures, ← c.count-n.ensures)
    (sym (lawful_wrong g.T.Item.Record.layout _ _ _ _ (counted_is _ _ _ (z.least ∙ sym c.FEWEST.ensures) (z.greatest ∙ sym c.MOST.ensures) _ _) (ap not c.if-not-are_whole-FEWEST.true)))

pub loop-k-preserved : goal.loop-k-preserved
loop-k-preserved g c =
    let l = c.loop-k in
    rw (c.key-before.ensures)
    (judged_next g.T.Item.Record.layout _ _ _ l.k l.good l.before _ _ _ l.invariant c.loop-k-test.true c.row-g.ensures c.is_clean.ensures
    (rw (c.is_in_range.ensures, c.is_above.ensures) refl))

pub returns : goal.returns
returns g c =
    let z = g.met.T.Item.Record.sizes in
    let t = g.T.Item.Record.layout in
    let l = c.loop-k in
    let n = c.count-n.result in
    let f = g.T.Rows.nth c.args.rows.now in
    let last : c.if-n-eq0.result ≡ closed t n f =
    elim c.if-n-eq0.branch [
      | then-n-eq0 w ↦ w.result-is ∙ none_last t n f w.if-n-eq0.true
      | else-n-eq0 w ↦ w.result-is ∙ w.may_end.ensures ∙ ap t.ends w.row.ensures ∙ closed_last t n f (omega (arith, w.if-n-eq0.false))
    ] in
    rw (← c.are_whole.ensures, ← c.count-n.ensures)
    (sym (lawful_judged t n f _ _ (counted_is _ _ _ (z.least ∙ sym c.FEWEST.ensures) (z.greatest ∙ sym c.MOST.ensures) _ _) (ap not c.if-not-are_whole-FEWEST.false) l.k l.good l.before _ l.invariant c.loop-k-test.false last))
