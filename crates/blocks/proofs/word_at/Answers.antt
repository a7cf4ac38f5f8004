use Rattle.std.proofs.Common.{◌∙◌, ◌%◌, ◌^◌, List, ℕ, ap, arith}
use native.Mathlib.Nat.{lt_trans, mod-eq_of_lt}
use lib.Dec.{lit<}
use Rattle.bits.specs.Bytes.{num}
use Rattle.blocks.proofs.Bytes.{word_small}
use Rattle.blocks.proofs.word_at.Goals as goal

pub returns : goal.returns
returns c =
    c.word.ensures
    ∙ ap (λ (s : List ℕ). num s % 2 ^ 64) c.record.ensures
    ∙ mod-eq_of_lt (lt_trans (word_small c.args.s.now c.args.k (λ i. grind arith)) (lit< tt))
