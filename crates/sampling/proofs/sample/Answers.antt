use Rattle.std.proofs.Common.{sym, ap, refl, subst, ◌∙◌}
use Rattle.std.proofs.lemmas.Result.{err_from_is_err_and}
use borrow.Author.Tests.{not-true, not-false}
use Rattle.refusal.specs.Number.{answer_of}
use Rattle.refusal.proofs.Steps.{on_unless, off_unless}
use Rattle.sample.specs.declared.Sample.{Sample}
use Rattle.sample.specs.Sample.{no_sample}
use Rattle.admission.proofs.Admitted.{verdict_is, sample_is}
use Rattle.prediction.specs.Steps.{Ready}
use Rattle.session.specs.Session.{call_told}
use Rattle.sampling.proofs.Admitted.{not_open, past_open, is_opened, ready}
use Rattle.sampling.proofs.Calls.{call_before}
use Rattle.sampling.proofs.Written.{written_refused, written_accepted}
use Rattle.sampling.proofs.sample.Goals as goal

pub returns-in_default : goal.returns-in_default
returns-in_default c =
    let no = off_unless _ (sym c.in_default.is ∙ c.unless.ensures) in
    ap call_told (sym (call_before c.args.x.now _ _ _ _ _ (not_open _ _ _ _ (sym c.is_open.ensures ∙ not-true _ no))))

pub returns-in_err-m : goal.returns-in_err-m
returns-in_err-m c =
    let p = err_from_is_err_and c.from_residual.result c.from_residual.ensures.1 in
    let yes = on_unless _ (sym c.in-Some.is ∙ c.unless.ensures) in
    let h = sym (ap (answer_of no_sample) c.in_err-m.was) ∙ c.admit.ensures in
    let before = past_open _ _ _ _ (sym c.is_open.ensures ∙ not-false _ yes) ∙ verdict_is _ _ _ _ _ _ _ h in
    rw (p.1, p.2) (ap call_told (sym (call_before c.args.x.now _ _ _ _ _ before)))

pub advance-next-requires-clause-ready : goal.advance-next-requires-clause-ready
advance-next-requires-clause-ready c =
    let a = c.args in
    let yes = on_unless _ (sym c.in-Some.is ∙ c.unless.ensures) in
    let h = sym (ap (answer_of no_sample) c.in_ok-m.was) ∙ c.admit.ensures in
    let before = past_open _ _ _ _ (sym c.is_open.ensures ∙ not-false _ yes) ∙ verdict_is _ _ _ _ _ _ _ h in
    subst (λ (m : Sample). Ready a.x.now.consist a.x.now.brake m a.p.now) (sample_is _ _ _ _ _ _ _ h refl) (ready a.x.now a.s.now a.p.now a.t.now before)

pub advance-next-requires-clause-learner : goal.advance-next-requires-clause-learner
advance-next-requires-clause-learner c =
    let a = c.args in
    let yes = on_unless _ (sym c.in-Some.is ∙ c.unless.ensures) in
    let h = sym (ap (answer_of no_sample) c.in_ok-m.was) ∙ c.admit.ensures in
    let before = past_open _ _ _ _ (sym c.is_open.ensures ∙ not-false _ yes) ∙ verdict_is _ _ _ _ _ _ _ h in
    (is_opened a.x.now a.s.now a.p.now a.t.now before).learner

pub returns-in_err-write_both : goal.returns-in_err-write_both
returns-in_err-write_both c =
    let p = err_from_is_err_and c.from_residual-in_err-write_both.result c.from_residual-in_err-write_both.ensures.1 in
    let yes = on_unless _ (sym c.in-Some.is ∙ c.unless.ensures) in
    let h = sym (ap (answer_of no_sample) c.in_ok-m.was) ∙ c.admit.ensures in
    let before = past_open _ _ _ _ (sym c.is_open.ensures ∙ not-false _ yes) ∙ verdict_is _ _ _ _ _ _ _ h in
    rw (p.1, p.2) (ap call_told (written_refused _ _ _ _ _ before (sample_is _ _ _ _ _ _ _ h refl) c.advance-next.ensures _ _ c.write_both.ensures c.in_err-write_both.was))

pub returns : goal.returns
returns c =
    let yes = on_unless _ (sym c.in-Some.is ∙ c.unless.ensures) in
    let h = sym (ap (answer_of no_sample) c.in_ok-m.was) ∙ c.admit.ensures in
    let before = past_open _ _ _ _ (sym c.is_open.ensures ∙ not-false _ yes) ∙ verdict_is _ _ _ _ _ _ _ h in
    ap call_told (written_accepted _ _ _ _ _ before (sample_is _ _ _ _ _ _ _ h refl) c.advance-next.ensures _ _ c.write_both.ensures c.in_ok-write_both.was)
