use Rattle.std.proofs.Common.{◌≡◌, ◌∙◌, sym, ap, refl, true, false}
use Rattle.record.specs.Record.{wrong_length}
use Rattle.refusal.specs.Verdict.{Accepted}
use Rattle.refusal.proofs.Steps.{on_unless, off_unless}
use Rattle.sample.specs.Sample.{size, of_fields, raw_in, wrong_mark, answer, answer_told}
use Rattle.sample.proofs.Answers.{fields_read, layout_is}
use Rattle.sample.proofs.lay_out.Goals as goal

pub returns-in_default : goal.returns-in_default
unfolding wrong_length
returns-in_default c = ap answer_told (sym (layout_is _ true _ (off_unless _ (sym c.in_default.is ∙ c.unless.ensures)) refl))

pub returns-in_default-unless : goal.returns-in_default-unless
unfolding wrong_length
returns-in_default-unless c =
    let s = c.args.s.now in
    let l : wrong_length size s ≡ false = on_unless _ (sym c.in-Some.is ∙ c.unless.ensures) in
    let m = sym (c.wrong_mark.ensures ∙ ap wrong_mark (fields_read s l)) ∙ off_unless _ (sym c.in_default-unless.is ∙ c.unless-2.ensures) in
    ap answer_told (sym (layout_is s false true l m))

pub returns : goal.returns
unfolding wrong_length raw_in
returns c =
    let s = c.args.s.now in
    let l : wrong_length size s ≡ false = on_unless _ (sym c.in-Some.is ∙ c.unless.ensures) in
    let m = sym (c.wrong_mark.ensures ∙ ap wrong_mark (fields_read s l)) ∙ on_unless _ (sym c.in-Some-unless.is ∙ c.unless-2.ensures) in
    ap answer_told (ap (answer Accepted) (c.of_bytes.ensures ∙ ap of_fields (fields_read s l)) ∙ sym (layout_is s false false l m))
