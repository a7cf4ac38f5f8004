use Rattle.std.proofs.Common.{◌∙◌, ◌&&◌, rules, sym, ap₂, arith}
use Rattle.blocks.proofs.Sound.{placed_is, sound_none, sound_many, sound_some}
use Rattle.blocks.proofs.is_sound.Goals as goal

pub returns-then-b-eq0 : goal.returns-then-b-eq0
returns-then-b-eq0 c =
    let a = c.args in
    c.is_empty.ensures ∙ sym (sound_none a.b a.length a.weight (placed_is a.b (search rules) (search rules)) c.if-b-eq0.true)

pub returns-then-b-gt-MOST : goal.returns-then-b-gt-MOST
returns-then-b-gt-MOST c = sym (sound_many _ _ _ c.if-b-gt-MOST.true)

pub returns : goal.returns
returns c =
    let a = c.args in
    ap₂ ◌&&◌ c.each_right.ensures c.sums_right.ensures
    ∙ sym (sound_some a.b a.length a.weight (placed_is a.b (search rules) (search rules)) (omega (arith, c.if-b-eq0.false)) c.if-b-gt-MOST.false)
