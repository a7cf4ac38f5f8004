use Rattle.std.proofs.Common.{Err, Ok, sym, ap}
use Rattle.std.proofs.lemmas.Result.{err_from_is_err_and}
use Rattle.refusal.specs.Verdict.{Verdict}
use Rattle.refusal.proofs.Numbers.{told_is}
use Rattle.consist.specs.declared.Consist.{Consist}
use Rattle.consist.specs.Consist.{read_consist}
use Rattle.session.specs.Session.{answer_told}
use Rattle.session.specs.Open.{opened_by, open_of}
use Rattle.session.proofs.open.Goals as goal

pub returns-in_err-consist : goal.returns-in_err-consist
unfolding open_of
returns-in_err-consist c =
    let p = err_from_is_err_and c.from_residual.result c.from_residual.ensures.1 in
    let read = told_is _ (read_consist c.args.s.now) _ (Err _) c.read.ensures c.in_err-consist.was in
    rw (p.1, p.2) (ap (λ (r : Verdict × Consist). answer_told (opened_by c.args.x.now r c.args.choice)) (sym read))

pub returns : goal.returns
unfolding open_of
returns c =
    let read = told_is _ (read_consist c.args.s.now) _ (Ok _) c.read.ensures c.in_ok-consist.was in
    rw (c.at_opening.ensures, c.bare.ensures)
    (ap (λ (r : Verdict × Consist). answer_told (opened_by c.args.x.now r c.args.choice)) (sym read))
