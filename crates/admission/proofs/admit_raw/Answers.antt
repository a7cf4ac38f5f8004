use Rattle.std.proofs.Common.{Err, Ok, sym, refl, ◌∙◌, true, false}
use Rattle.std.proofs.lemmas.Result.{err_from_is_err_and}
use Rattle.refusal.proofs.Numbers.{told_is}
use Rattle.refusal.proofs.Steps.{on_unless, off_unless}
use Rattle.profile.specs.Profile.{judge_profile}
use Rattle.targets.specs.Targets.{judge_targets}
use Rattle.sample.specs.Sample.{judge_sample}
use Rattle.sample.proofs.Told.{judged_is}
use Rattle.admission.proofs.Rules.{admit_raw_is, left_to}
use Rattle.admission.proofs.admit_raw.Goals as goal

pub returns-in_err-judge : goal.returns-in_err-judge
returns-in_err-judge c =
    let p = err_from_is_err_and c.from_residual.result c.from_residual.ensures.1 in
    let six = told_is _ (judge_profile c.args.p.now) _ (Err _) c.judge.ensures c.in_err-judge.was in
    rw (p.1, p.2) (sym (admit_raw_is _ _ _ _ _ _ _ _ _ _ (λ i. (six i).0) refl refl refl refl))

pub returns-in_err-judge-2 : goal.returns-in_err-judge-2
returns-in_err-judge-2 c =
    let p = err_from_is_err_and c.from_residual-in_err-judge-2.result c.from_residual-in_err-judge-2.ensures.1 in
    let six = told_is _ (judge_profile c.args.p.now) _ (Ok _) c.judge.ensures c.in_ok-judge.was in
    let seven = told_is _ (judge_targets c.args.t.now) _ (Err _) c.judge-2.ensures c.in_err-judge-2.was in
    rw (p.1, p.2) (sym (admit_raw_is _ _ _ _ _ _ _ _ _ _ (λ i. (six i).0) (λ i. (seven i).0) refl refl refl))

pub returns-in_err-m : goal.returns-in_err-m
returns-in_err-m c =
    let p = err_from_is_err_and c.from_residual-in_err-m.result c.from_residual-in_err-m.ensures.1 in
    let six = told_is _ (judge_profile c.args.p.now) _ (Ok _) c.judge.ensures c.in_ok-judge.was in
    let seven = told_is _ (judge_targets c.args.t.now) _ (Ok _) c.judge-2.ensures c.in_ok-judge-2.was in
    let eight = judged_is (judge_sample c.args.raw) _ (Err _) c.judge-3.ensures c.in_err-m.was in
    rw (p.1, p.2) (sym (admit_raw_is _ _ _ _ _ _ _ _ _ _ (λ i. (six i).0) (λ i. (seven i).0) (λ i. (eight i).0) refl refl))

pub returns-in_default : goal.returns-in_default
returns-in_default c =
    let six = told_is _ (judge_profile c.args.p.now) _ (Ok _) c.judge.ensures c.in_ok-judge.was in
    let seven = told_is _ (judge_targets c.args.t.now) _ (Ok _) c.judge-2.ensures c.in_ok-judge-2.was in
    let eight = judged_is (judge_sample c.args.raw) _ (Ok _) c.judge-3.ensures c.in_ok-m.was in
    let nine = sym c.wrong_time.ensures ∙ off_unless _ (sym c.in_default.is ∙ c.unless.ensures) in
    sym (left_to _ _ _ _ _ _ _ c.in_ok-m.m six seven eight true _ nine refl)

pub returns-in_default-unless : goal.returns-in_default-unless
returns-in_default-unless c =
    let six = told_is _ (judge_profile c.args.p.now) _ (Ok _) c.judge.ensures c.in_ok-judge.was in
    let seven = told_is _ (judge_targets c.args.t.now) _ (Ok _) c.judge-2.ensures c.in_ok-judge-2.was in
    let eight = judged_is (judge_sample c.args.raw) _ (Ok _) c.judge-3.ensures c.in_ok-m.was in
    let nine = sym c.wrong_time.ensures ∙ on_unless _ (sym c.in-Some.is ∙ c.unless.ensures) in
    let ten = sym c.not_covered.ensures ∙ off_unless _ (sym c.in_default-unless.is ∙ c.unless-2.ensures) in
    sym (left_to _ _ _ _ _ _ _ c.in_ok-m.m six seven eight false true nine ten)

pub returns : goal.returns
returns c =
    let six = told_is _ (judge_profile c.args.p.now) _ (Ok _) c.judge.ensures c.in_ok-judge.was in
    let seven = told_is _ (judge_targets c.args.t.now) _ (Ok _) c.judge-2.ensures c.in_ok-judge-2.was in
    let eight = judged_is (judge_sample c.args.raw) _ (Ok _) c.judge-3.ensures c.in_ok-m.was in
    let nine = sym c.wrong_time.ensures ∙ on_unless _ (sym c.in-Some.is ∙ c.unless.ensures) in
    let ten = sym c.not_covered.ensures ∙ on_unless _ (sym c.in-Some-unless.is ∙ c.unless-2.ensures) in
    sym (left_to _ _ _ _ _ _ _ c.in_ok-m.m six seven eight false false nine ten)
