use Rattle.std.proofs.Common.{◌∙◌, sym, ap, true, false}
use Rattle.std.proofs.lemmas.Bool.{not-true, not-false}
use Rattle.refusal.specs.Number.{told}
use Rattle.refusal.proofs.Steps.{on_unless, off_unless}
use Rattle.table.specs.Table.{lawful_in}
use Rattle.table.proofs.Judging.{judge_is}
use Rattle.table.proofs.rows.judge.Goals as goal

pub returns-in_default : goal.returns-in_default
unfolding lawful_in
returns-in_default g c =
    let no = off_unless _ (sym c.in_default.is ∙ c.unless.ensures) in
    rw (c.broken.ensures) (ap told (sym (judge_is g.R.Record.layout c.args.s.now false (sym c.keep.ensures ∙ not-true _ no))))

pub returns : goal.returns
unfolding lawful_in
returns g c =
    let yes = on_unless _ (sym c.in-Some.is ∙ c.unless.ensures) in
    rw (c.count.ensures) (ap told (sym (judge_is g.R.Record.layout c.args.s.now true (sym c.keep.ensures ∙ not-false _ yes))))
