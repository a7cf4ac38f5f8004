-- The bytes that hold the field are one word, and the field is a part of it.
use Rattle.std.proofs.Common.{refl, arith}
use native.Mathlib.Nat.{mod-lt}
use lib.Pow.{pow_pos}
use Rattle.bits.specs.Places.{field_at}
use Rattle.bits.proofs.OneField.{one_shl, too_wide, past_end, read_place}
use Rattle.bits.proofs.field.Goals as goal

pub returns-then-width-gt56 : goal.returns-then-width-gt56
unfolding field_at
returns-then-width-gt56 c = let a = c.args in rw (too_wide a.s.now a.first a.width c.if-width-gt56.true) (refl, pow_pos a.width)

pub returns-then-s-end : goal.returns-then-s-end
unfolding field_at
returns-then-s-end c =
    let a = c.args in
    rw (past_end a.s.now a.first a.width (omega arith) (omega arith)) (refl, pow_pos a.width)

pub nonzero_rem-result : goal.nonzero_rem-result
nonzero_rem-result c = let w = c.args.width in rw (one_shl w (omega arith)) (pow_pos w)

pub returns : goal.returns
returns c =
    let a = c.args in (
      read_place a.s.now a.first a.width (λ i. (c.type_inv.s i).fits) (omega arith) (omega arith) _ c.word.ensures,
      rw (one_shl a.width (omega arith)) (mod-lt _ (pow_pos a.width)),
    )
