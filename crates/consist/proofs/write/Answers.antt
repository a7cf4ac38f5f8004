use Rattle.std.proofs.Common.{◌≡◌, ◌∙◌, arith, List, ℕ, length, ltb, sym, ap, refl, true, false, not}
use Rattle.std.proofs.lemmas.Bool.{not-false}
use Rattle.refusal.specs.Number.{told}
use Rattle.refusal.specs.Verdict.{Accepted}
use Rattle.refusal.specs.Written.{no_room}
use Rattle.refusal.proofs.Steps.{on_unless, off_unless}
use Rattle.consist.specs.Consist.{size_of}
use Rattle.consist.proofs.Answers.{write_is}
use Rattle.consist.proofs.Bytes.{written_all}
use Rattle.consist.proofs.Writing.{front_put, kept, blocks_room, few}
use Rattle.consist.proofs.write.Goals as goal

pub returns-in_default : goal.returns-in_default
returns-in_default c =
    let r = sym (ap not c.is_in_range.ensures) ∙ off_unless _ (sym c.in_default.is ∙ c.unless.ensures) in
    ap told (sym (write_is _ _ true _ _ _ r refl refl refl))

pub returns-in_default-unless : goal.returns-in_default-unless
returns-in_default-unless c =
    let r = sym (ap not c.is_in_range.ensures) ∙ on_unless _ (sym c.in-Some.is ∙ c.unless.ensures) in
    let w = sym c.is_too_light.ensures ∙ off_unless _ (sym c.in_default-unless.is ∙ c.unless-2.ensures) in
    ap told (sym (write_is _ _ false true _ _ r w refl refl))

pub returns-in_default-unless-2 : goal.returns-in_default-unless-2
unfolding no_room
returns-in_default-unless-2 c =
    let r = sym (ap not c.is_in_range.ensures) ∙ on_unless _ (sym c.in-Some.is ∙ c.unless.ensures) in
    let w = sym c.is_too_light.ensures ∙ on_unless _ (sym c.in-Some-unless.is ∙ c.unless-2.ensures) in
    let o = sym (ap (ltb (length c.args.out.now)) c.size.ensures) ∙ off_unless _ (sym c.in_default-unless-2.is ∙ c.unless-3.ensures) in
    ap told (sym (write_is _ c.args.out.now false false true _ r w o refl))

pub returns-in_default-unless-3 : goal.returns-in_default-unless-3
unfolding no_room
returns-in_default-unless-3 c =
    let r = sym (ap not c.is_in_range.ensures) ∙ on_unless _ (sym c.in-Some.is ∙ c.unless.ensures) in
    let w = sym c.is_too_light.ensures ∙ on_unless _ (sym c.in-Some-unless.is ∙ c.unless-2.ensures) in
    let o = sym (ap (ltb (length c.args.out.now)) c.size.ensures) ∙ on_unless _ (sym c.in-Some-unless-2.is ∙ c.unless-3.ensures) in
    let b = sym (ap not c.has_sound_blocks.ensures) ∙ off_unless _ (sym c.in_default-unless-3.is ∙ c.unless-4.ensures) in
    ap told (sym (write_is _ c.args.out.now false false false true r w o b))

pub put-requires : goal.put-requires
unfolding no_room
put-requires c =
    let x = c.args.c in
    let out = c.args.out.now in
    let r = sym (ap not c.is_in_range.ensures) ∙ on_unless _ (sym c.in-Some.is ∙ c.unless.ensures) in
    let o : no_room (size_of x) out ≡ false = sym (ap (ltb (length out)) c.size.ensures) ∙ on_unless _ (sym c.in-Some-unless-2.is ∙ c.unless-3.ensures) in
    let b = sym c.has_sound_blocks.ensures ∙ not-false _ (on_unless _ (sym c.in-Some-unless-3.is ∙ c.unless-4.ensures)) in
    (few x b, blocks_room x out o r (λ i. grind arith) _ _ c.put_front.ensures c.put_back.ensures)

pub returns : goal.returns
unfolding no_room
returns c =
    let x = c.args.c in
    let out = c.args.out.now in
    let r = sym (ap not c.is_in_range.ensures) ∙ on_unless _ (sym c.in-Some.is ∙ c.unless.ensures) in
    let w = sym c.is_too_light.ensures ∙ on_unless _ (sym c.in-Some-unless.is ∙ c.unless-2.ensures) in
    let o : no_room (size_of x) out ≡ false = sym (ap (ltb (length out)) c.size.ensures) ∙ on_unless _ (sym c.in-Some-unless-2.is ∙ c.unless-3.ensures) in
    let b = sym (ap not c.has_sound_blocks.ensures) ∙ on_unless _ (sym c.in-Some-unless-3.is ∙ c.unless-4.ensures) in
    let p = front_put x out o r (λ i. grind arith) _ _ c.put_front.ensures c.put_back.ensures in
    let k = kept x out o r (λ i. grind arith) _ _ c.put_front.ensures c.put_back.ensures in
    ap told (ap (λ (l : List ℕ). (Accepted, l)) (written_all x out c.put_back.new.out _ p k c.put.ensures) ∙ sym (write_is x out false false false false r w o b))
