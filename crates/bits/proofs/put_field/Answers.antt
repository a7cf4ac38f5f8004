-- The bytes that hold the field are one word, of which a part is replaced.
use mathlib.Core.Path.{refl}
use native.Mathlib.Omega.{arith}
use Rattle.bits.specs.Places.{put_at}
use Rattle.bits.proofs.OneField.{too_wide, past_end, put_place}
use Rattle.bits.proofs.put_field.Goals as goal

pub returns-then-width-gt56 : goal.returns-then-width-gt56
unfolding put_at
returns-then-width-gt56 c = let a = c.args in rw (too_wide a.out.now a.first a.width c.if-width-gt56.true) refl

pub returns-then-out-end : goal.returns-then-out-end
unfolding put_at
returns-then-out-end c =
    let a = c.args in
    rw (past_end a.out.now a.first a.width (omega arith) (omega arith)) refl

pub returns : goal.returns
returns c =
    let a = c.args in
    put_place a.out.now a.first a.width (λ i. grind arith) (omega arith) (omega arith) a.value _ _ _
    c.word.ensures c.replace-w.ensures c.put_word.ensures
