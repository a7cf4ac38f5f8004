use Rattle.std.proofs.Common.{◌≡◌, ◌∙◌, List, ℕ, length, sym, ap, refl, true, false, arith}
use Rattle.std.proofs.lemmas.Bool.{ltb-false}
use Rattle.refusal.specs.Number.{told}
use Rattle.refusal.specs.Verdict.{Accepted}
use Rattle.refusal.specs.Written.{no_room}
use Rattle.refusal.proofs.Steps.{on_unless, off_unless}
use Rattle.decision.specs.Decision.{size, bytes_of}
use Rattle.decision.proofs.Answers.{write_is, put_one}
use Rattle.decision.proofs.write.Goals as goal

pub returns-in_default : goal.returns-in_default
returns-in_default c =
    let r = sym c.is_out_of_range.ensures ∙ off_unless _ (sym c.in_default.is ∙ c.unless.ensures) in
    ap told (sym (write_is _ _ true _ r refl))

pub returns-in_default-unless : goal.returns-in_default-unless
unfolding no_room
returns-in_default-unless c =
    let r = sym c.is_out_of_range.ensures ∙ on_unless _ (sym c.in-Some.is ∙ c.unless.ensures) in
    ap told (sym (write_is _ _ false true r (off_unless _ (sym c.in_default-unless.is ∙ c.unless-2.ensures))))

pub returns : goal.returns
unfolding no_room bytes_of
returns c =
    let d = c.args.d in
    let out = c.args.out.now in
    let r = sym c.is_out_of_range.ensures ∙ on_unless _ (sym c.in-Some.is ∙ c.unless.ensures) in
    let o : no_room size out ≡ false = on_unless _ (sym c.in-Some-unless.is ∙ c.unless-2.ensures) in
    ap told
    (ap (λ (l : List ℕ). (Accepted, l)) (c.put.ensures ∙ put_one d out r (λ i. grind arith) (ltb-false (length out) size o))
    ∙ sym (write_is d out false false r o))
