use Rattle.std.proofs.Common.{◌∙◌, sym, ap, true}
use mathlib.Core.Bool.{true-or, or-true}
use Rattle.hundredths.proofs.Accepted.{speed_refused, speed_accepted, pressure_refused, pressure_accepted}
use Rattle.hundredths.proofs.Told.{reading_one}
use Rattle.sample.specs.declared.RearPressure.TheVariants.{Present}
use Rattle.sample.specs.Sample.{bad_rear, bad_reading, rear_in_hundredths, judged_told}
use Rattle.sample.proofs.Answers.{judge_is, judged_good}
use Rattle.sample.proofs.judge.Goals as goal

pub returns-in_default : goal.returns-in_default
unfolding bad_reading
returns-in_default c =
    let h = speed_refused _ (sym (reading_one _ _ c.speed.ensures) ∙ c.in_default.is) in
    ap judged_told (sym (judge_is _ true (simp (h, true-or))))

pub returns-in_default-pressure : goal.returns-in_default-pressure
unfolding bad_reading
returns-in_default-pressure c =
    let h = pressure_refused _ (sym (reading_one _ _ c.pressure.ensures) ∙ c.in_default-pressure.is) in
    ap judged_told (sym (judge_is _ true (simp (h, or-true, true-or))))

pub returns-in_default-pressure-2 : goal.returns-in_default-pressure-2
unfolding bad_reading
returns-in_default-pressure-2 c =
    let h = ap bad_rear c.in-Present.is ∙ pressure_refused _ (sym (reading_one _ _ c.pressure-in-Present.ensures) ∙ c.in_default-pressure-2.is) in
    ap judged_told (sym (judge_is _ true (simp (h, or-true))))

pub returns-in-Some-pressure-2 : goal.returns-in-Some-pressure-2
returns-in-Some-pressure-2 c =
    let s = speed_accepted _ (sym (reading_one _ _ c.speed.ensures) ∙ c.in-Some.is) in
    let f = pressure_accepted _ (sym (reading_one _ _ c.pressure.ensures) ∙ c.in-Some-pressure.is) in
    let p = pressure_accepted _ (sym (reading_one _ _ c.pressure-in-Present.ensures) ∙ c.in-Some-pressure-2.is) in
    let r = c.in-Present.is in
    ap judged_told (judged_good c.args.raw _ _ _ s f (ap bad_rear r ∙ p.0) (ap Present p.1 ∙ sym (ap rear_in_hundredths r)))

pub returns-in-Lost : goal.returns-in-Lost
returns-in-Lost c =
    let s = speed_accepted _ (sym (reading_one _ _ c.speed.ensures) ∙ c.in-Some.is) in
    let f = pressure_accepted _ (sym (reading_one _ _ c.pressure.ensures) ∙ c.in-Some-pressure.is) in
    let r = c.in-Lost.is in
    ap judged_told (judged_good c.args.raw _ _ _ s f (ap bad_rear r) (sym (ap rear_in_hundredths r)))
