use Rattle.std.proofs.Common.{Err, Ok, sym, ap, ◌∙◌}
use Rattle.std.proofs.lemmas.Result.{err_from_is_err_and}
use Rattle.sample.specs.declared.RawSample.{RawSample}
use Rattle.sample.specs.Sample.{lay_out}
use Rattle.sample.proofs.Told.{answer_is}
use Rattle.admission.specs.Steps.{admit_raw}
use Rattle.admission.proofs.Rules.{not_laid_out, laid_out}
use Rattle.admission.proofs.admit.Goals as goal

pub returns-in_err-raw : goal.returns-in_err-raw
returns-in_err-raw c =
    let p = err_from_is_err_and c.from_residual.result c.from_residual.ensures.1 in
    let laid = answer_is (lay_out c.args.s.now) _ (Err _) c.lay_out.ensures c.in_err-raw.was in
    rw (p.1, p.2) (sym (not_laid_out _ _ _ _ _ _ (λ i. (laid i).0)))

pub returns : goal.returns
returns c =
    let a = c.args in
    let laid = answer_is (lay_out a.s.now) _ (Ok _) c.lay_out.ensures c.in_ok-raw.was in
    c.admit_raw.ensures
    ∙ ap (λ (raw : RawSample). admit_raw a.c a.k raw a.p.now a.t.now) (λ i. (sym laid i).1)
    ∙ sym (laid_out _ _ _ _ _ (λ i. (laid i).0))
