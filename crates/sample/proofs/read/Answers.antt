use Rattle.std.proofs.Common.{Err, Ok, sym, ap, ◌∙◌, true, false}
use Rattle.std.proofs.lemmas.Result.{err_from_is_err_and}
use Rattle.sample.specs.Sample.{answer_told}
use Rattle.sample.proofs.Answers.{read_refused, read_is, judged_accepted, judged_refused}
use Rattle.sample.proofs.Told.{answer_is, judged_is}
use Rattle.sample.proofs.read.Goals as goal

pub returns-in_err-raw : goal.returns-in_err-raw
returns-in_err-raw c =
    let p = err_from_is_err_and c.from_residual.result c.from_residual.ensures.1 in
    rw (p.1, p.2)
    (c.in_err-raw.ensures ∙ ap answer_told (sym (read_refused _ _ _ (answer_is _ _ (Err _) c.lay_out.ensures c.in_err-raw.was))))

pub returns-in_err-judge : goal.returns-in_err-judge
returns-in_err-judge c =
    let p = err_from_is_err_and c.from_residual-in_err-judge.result c.from_residual-in_err-judge.ensures.1 in
    let laid = answer_is _ _ (Ok _) c.lay_out.ensures c.in_ok-raw.was in
    let j = judged_refused _ _ _ (judged_is _ _ (Err _) c.judge.ensures c.in_err-judge.was) in
    rw (p.1, p.2, j.1) (ap answer_told (sym (read_is _ _ true laid j.0)))

pub returns : goal.returns
returns c =
    let laid = answer_is _ _ (Ok _) c.lay_out.ensures c.in_ok-raw.was in
    let j = judged_accepted _ _ (judged_is _ _ (Ok _) c.judge.ensures c.in_ok-judge.was) in
    ap answer_told (sym (read_is _ _ false laid j.0))
