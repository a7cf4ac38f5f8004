use Rattle.std.proofs.Common.{arith, ◌≡◌, Err, Ok, List, ℕ, length, sym, ap, refl, ◌∙◌, true, false}
use Rattle.std.proofs.lemmas.Result.{err_from_is_err_and}
use borrow.Author.Tests.{ltb-false}
use Rattle.bits.proofs.Places.{put_all}
use Rattle.refusal.specs.Written.{no_room}
use Rattle.refusal.specs.Number.{told}
use Rattle.refusal.specs.Verdict.{Accepted}
use Rattle.refusal.proofs.Steps.{on_unless, off_unless}
use Rattle.sample.specs.Sample.{size, widths, fields_of, bytes_of, too_wide}
use Rattle.sample.proofs.Answers.{write_is, fits, judged_accepted, judged_refused}
use Rattle.sample.proofs.Told.{judged_is}
use Rattle.sample.proofs.write.Goals as goal

pub returns-in_default : goal.returns-in_default
unfolding too_wide
returns-in_default c = ap told (sym (write_is _ _ true _ _ (off_unless _ (sym c.in_default.is ∙ c.unless.ensures)) refl refl))

pub returns-in_err-judge : goal.returns-in_err-judge
unfolding too_wide
returns-in_err-judge c =
    let p = err_from_is_err_and c.from_residual.result c.from_residual.ensures.1 in
    let j = judged_refused _ _ _ (judged_is _ _ (Err _) c.judge.ensures c.in_err-judge.was) in
    let w = on_unless _ (sym c.in-Some.is ∙ c.unless.ensures) in
    rw (p.1, p.2, j.1) (ap told (sym (write_is _ _ false true _ w j.0 refl)))

pub returns-in_default-unless : goal.returns-in_default-unless
unfolding too_wide no_room
returns-in_default-unless c =
    let w = on_unless _ (sym c.in-Some.is ∙ c.unless.ensures) in
    let j = judged_accepted _ _ (judged_is _ _ (Ok _) c.judge.ensures c.in_ok-judge.was) in
    let o = off_unless _ (sym c.in_default-unless.is ∙ c.unless-2.ensures) in
    ap told (sym (write_is _ _ false false true w j.0 o))

pub returns : goal.returns
unfolding too_wide no_room bytes_of
returns c =
    let raw = c.args.raw in
    let out = c.args.out.now in
    let w : too_wide raw ≡ false = on_unless _ (sym c.in-Some.is ∙ c.unless.ensures) in
    let j = judged_accepted _ _ (judged_is _ _ (Ok _) c.judge.ensures c.in_ok-judge.was) in
    let o : no_room size out ≡ false = on_unless _ (sym c.in-Some-unless.is ∙ c.unless-2.ensures) in
    ap told
    (ap (λ (l : List ℕ). (Accepted, l))
    (c.put.ensures.0 ∙ put_all size widths (fields_of raw) out tt refl (fits raw w c.put.ensures.1) (λ i. grind arith) (ltb-false (length out) size o))
    ∙ sym (write_is raw out false false false w j.0 o))
