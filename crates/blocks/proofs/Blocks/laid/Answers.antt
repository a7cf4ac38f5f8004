use Rattle.std.proofs.Common.{◌≡◌, ◌∙◌, ◌<◌, ap, arith, ℕ}
use Rattle.bits.proofs.UpTo.{filled, fill}
use Rattle.blocks.specs.Blocks.{most}
use Rattle.blocks.specs.Steps.{field_in}
use Rattle.blocks.proofs.Bytes.{columns_laid}
use Rattle.blocks.proofs.Blocks.laid.Goals as goal

pub loop-k-preserved : goal.loop-k-preserved
loop-k-preserved c =
    let l = c.loop-k in
    let word = c.word_at-x.ensures in
    let h : l.k < most = omega arith in (
      fill _ 0 most l.k h _ _ l.invariant.0 (c.length_in.ensures ∙ ap (λ (x : ℕ). field_in x 0) word),
      fill _ 0 most l.k h _ _ l.invariant.1 (c.weight_in.ensures ∙ ap (λ (x : ℕ). field_in x 1) word),
    )

pub returns : goal.returns
returns c =
    let l = c.loop-k in
    let n = c.min-count in
    let e : l.k ≡ n.result = omega arith in
    columns_laid _ n.result n.ensures _ _ (l.invariant.0 ∙ ap (filled _ 0 most) e) (l.invariant.1 ∙ ap (filled _ 0 most) e)
