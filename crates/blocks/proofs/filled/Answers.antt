use Rattle.std.proofs.Common.{◌≡◌, ◌∙◌, get_or, refl, arith}
use lib.ListN.{get_or-eq_default}
use Rattle.bits.proofs.UpTo.{fill, filled_up}
use Rattle.blocks.specs.Blocks.{most}
use Rattle.blocks.proofs.filled.Goals as goal

pub loop-k-preserved : goal.loop-k-preserved
loop-k-preserved c =
    let l = c.loop-k in
    fill (λ i. get_or c.args.list.now i 0) 0 most l.k (omega arith) _ _ l.invariant refl

pub returns : goal.returns
returns c =
    let l = c.loop-k in
    let list = c.args.list.now in
    let n = c.min-n in
    let e : l.k ≡ n.result = omega arith in
    l.invariant
    ∙ filled_up (λ i. get_or list i 0) 0 most l.k (omega (arith, n.ensures)) (λ i a b. get_or-eq_default list 0 (omega (arith, n.ensures, e)))
