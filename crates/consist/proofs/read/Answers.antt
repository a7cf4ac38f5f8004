use Rattle.std.proofs.Common.{◌≡◌, ◌∙◌, sym, ap, refl, true, false}
use Rattle.refusal.specs.Number.{told}
use Rattle.refusal.specs.Verdict.{Accepted}
use Rattle.refusal.proofs.Steps.{on_unless, off_unless}
use Rattle.consist.specs.Consist.{too_short, answer}
use Rattle.consist.proofs.Answers.{read_is}
use Rattle.consist.proofs.Reading.{range_is, light_is, broken_is, whole_is}
use Rattle.consist.proofs.read.Goals as goal

pub returns-in_default : goal.returns-in_default
unfolding too_short
returns-in_default c = ap told (sym (read_is _ true _ _ _ (off_unless _ (sym c.in_default.is ∙ c.unless.ensures)) refl refl refl))

pub returns-in_default-unless : goal.returns-in_default-unless
unfolding too_short
returns-in_default-unless c =
    let s = c.args.s.now in
    let l : too_short s ≡ false = on_unless _ (sym c.in-Some.is ∙ c.unless.ensures) in
    let r = sym (range_is s l _ c.of_bytes-c.ensures _ c.is_in_range.ensures) ∙ off_unless _ (sym c.in_default-unless.is ∙ c.unless-2.ensures) in
    ap told (sym (read_is s false true _ _ l r refl refl))

pub returns-in_default-unless-2 : goal.returns-in_default-unless-2
unfolding too_short
returns-in_default-unless-2 c =
    let s = c.args.s.now in
    let l : too_short s ≡ false = on_unless _ (sym c.in-Some.is ∙ c.unless.ensures) in
    let x = c.of_bytes-c in
    let r = sym (range_is s l _ x.ensures _ c.is_in_range.ensures) ∙ on_unless _ (sym c.in-Some-unless.is ∙ c.unless-2.ensures) in
    let w = sym (light_is s l _ x.ensures _ c.is_too_light.ensures) ∙ off_unless _ (sym c.in_default-unless-2.is ∙ c.unless-3.ensures) in
    ap told (sym (read_is s false false true _ l r w refl))

pub returns-in_default-unless-3 : goal.returns-in_default-unless-3
unfolding too_short
returns-in_default-unless-3 c =
    let s = c.args.s.now in
    let l : too_short s ≡ false = on_unless _ (sym c.in-Some.is ∙ c.unless.ensures) in
    let x = c.of_bytes-c in
    let r = sym (range_is s l _ x.ensures _ c.is_in_range.ensures) ∙ on_unless _ (sym c.in-Some-unless.is ∙ c.unless-2.ensures) in
    let w = sym (light_is s l _ x.ensures _ c.is_too_light.ensures) ∙ on_unless _ (sym c.in-Some-unless-2.is ∙ c.unless-3.ensures) in
    let b = sym (broken_is s l _ x.ensures _ c.is_broken.ensures) ∙ off_unless _ (sym c.in_default-unless-3.is ∙ c.unless-4.ensures) in
    ap told (sym (read_is s false false false true l r w b))

pub returns : goal.returns
unfolding too_short
returns c =
    let s = c.args.s.now in
    let l : too_short s ≡ false = on_unless _ (sym c.in-Some.is ∙ c.unless.ensures) in
    let x = c.of_bytes-c in
    let r = sym (range_is s l _ x.ensures _ c.is_in_range.ensures) ∙ on_unless _ (sym c.in-Some-unless.is ∙ c.unless-2.ensures) in
    let w = sym (light_is s l _ x.ensures _ c.is_too_light.ensures) ∙ on_unless _ (sym c.in-Some-unless-2.is ∙ c.unless-3.ensures) in
    let b = sym (broken_is s l _ x.ensures _ c.is_broken.ensures) ∙ on_unless _ (sym c.in-Some-unless-3.is ∙ c.unless-4.ensures) in
    ap told (ap (answer Accepted) (c.with_blocks.ensures ∙ whole_is s l _ x.ensures _ c.laid.ensures) ∙ sym (read_is s false false false false l r w b))
