use Rattle.std.proofs.Common.{◌≡◌, ◌∙◌, sym, ap, refl, true, false}
use Rattle.refusal.specs.Number.{told}
use Rattle.refusal.specs.Verdict.{Accepted}
use Rattle.refusal.proofs.Steps.{on_unless, off_unless}
use Rattle.record.specs.Record.{wrong_length}
use Rattle.decision.specs.Decision.{size, answer}
use Rattle.decision.proofs.Answers.{read_is}
use Rattle.decision.proofs.Reading.{mark_is, decision_is, range_is}
use Rattle.decision.proofs.read.Goals as goal

pub returns-in_default : goal.returns-in_default
unfolding wrong_length
returns-in_default c = ap told (sym (read_is _ true _ _ (off_unless _ (sym c.in_default.is ∙ c.unless.ensures)) refl refl))

pub returns-in_default-unless : goal.returns-in_default-unless
unfolding wrong_length
returns-in_default-unless c =
    let s = c.args.s.now in
    let l : wrong_length size s ≡ false = on_unless _ (sym c.in-Some.is ∙ c.unless.ensures) in
    let m = sym (mark_is s l _ c.field-mark.ensures.0) ∙ off_unless _ (sym c.in_default-unless.is ∙ c.unless-2.ensures) in
    ap told (sym (read_is s false true _ l m refl))

pub returns-in_default-unless-2 : goal.returns-in_default-unless-2
unfolding wrong_length
returns-in_default-unless-2 c =
    let s = c.args.s.now in
    let l : wrong_length size s ≡ false = on_unless _ (sym c.in-Some.is ∙ c.unless.ensures) in
    let m = sym (mark_is s l _ c.field-mark.ensures.0) ∙ on_unless _ (sym c.in-Some-unless.is ∙ c.unless-2.ensures) in
    let r = sym (range_is s l _ c.of_bytes-d.ensures _ c.is_out_of_range.ensures) ∙ off_unless _ (sym c.in_default-unless-2.is ∙ c.unless-3.ensures) in
    ap told (sym (read_is s false false true l m r))

pub returns : goal.returns
unfolding wrong_length
returns c =
    let s = c.args.s.now in
    let l : wrong_length size s ≡ false = on_unless _ (sym c.in-Some.is ∙ c.unless.ensures) in
    let m = sym (mark_is s l _ c.field-mark.ensures.0) ∙ on_unless _ (sym c.in-Some-unless.is ∙ c.unless-2.ensures) in
    let r = sym (range_is s l _ c.of_bytes-d.ensures _ c.is_out_of_range.ensures) ∙ on_unless _ (sym c.in-Some-unless-2.is ∙ c.unless-3.ensures) in
    ap told (ap (answer Accepted) (decision_is s l _ c.of_bytes-d.ensures) ∙ sym (read_is s false false false l m r))
