use Rattle.std.proofs.Common.{◌≡◌, ◌∙◌, ◌||◌, ◌++◌, List, ℕ, length, drop, sym, ap, ap₂, refl, true, false, arith}
use Rattle.std.proofs.lemmas.Bool.{ltb-false}
use Rattle.bits.proofs.Ranges.{neither}
use Rattle.refusal.specs.Number.{told}
use Rattle.refusal.specs.Verdict.{Accepted}
use Rattle.refusal.specs.Written.{no_room}
use Rattle.refusal.proofs.Steps.{on_unless, off_unless}
use Rattle.decision.specs.Decision.{size, bytes_of, both_size, both_bytes}
use Rattle.decision.proofs.Answers.{both_is, both_size_lem, put_one, put_both}
use Rattle.decision.proofs.write_both.Goals as goal

pub returns-in_default : goal.returns-in_default
returns-in_default c =
    let r = sym (ap₂ ◌||◌ c.is_out_of_range.ensures c.is_out_of_range-2.ensures) ∙ off_unless _ (sym c.in_default.is ∙ c.unless.ensures) in
    ap told (sym (both_is _ _ _ true _ r refl))

pub returns-in_default-unless : goal.returns-in_default-unless
unfolding no_room
returns-in_default-unless c =
    let r = sym (ap₂ ◌||◌ c.is_out_of_range.ensures c.is_out_of_range-2.ensures) ∙ on_unless _ (sym c.in-Some.is ∙ c.unless.ensures) in
    ap told (sym (both_is _ _ _ false true r (off_unless _ (sym c.in_default-unless.is ∙ c.unless-2.ensures))))

pub returns : goal.returns
unfolding no_room
returns c =
    let a = c.args in
    let out = a.out.now in
    let r = sym (ap₂ ◌||◌ c.is_out_of_range.ensures c.is_out_of_range-2.ensures) ∙ on_unless _ (sym c.in-Some.is ∙ c.unless.ensures) in
    let o : no_room both_size out ≡ false = on_unless _ (sym c.in-Some-unless.is ∙ c.unless-2.ensures) in
    let room = ltb-false (length out) both_size o in
    let n = neither _ _ r in
    let first : c.put.new.out ≡ bytes_of a.first ++ drop size out = c.put.ensures ∙ put_one a.first out n.0 (λ i. grind arith) (omega (arith, room)) in
    ap told
    (ap (λ (l : List ℕ). (Accepted, l))
    (put_both a.first a.second out _ _ n.1 (λ i. grind arith) room first c.put-2.ensures
    ∙ ap (λ (k : ℕ). both_bytes a.first a.second ++ drop k out) (sym (both_size_lem a.first a.second)))
    ∙ sym (both_is a.first a.second out false false r o))
