use Rattle.std.proofs.Common.{◌≡◌, ◌∙◌, ◌&&◌, ap, ap₂, add-one, arith, ℕ}
use Rattle.table.specs.Table.{every}
use Rattle.blocks.specs.Blocks.{most, place_right, each_right}
use Rattle.blocks.proofs.Blocks.each_right.Goals as goal

pub loop-k-preserved : goal.loop-k-preserved
unfolding place_right
loop-k-preserved c = rw (add-one c.loop-k.k) (ap₂ ◌&&◌ c.loop-k.invariant c.place_right-right.ensures)

pub returns : goal.returns
unfolding each_right
returns c =
    let e : c.loop-k.k ≡ most = omega arith in
    c.loop-k.invariant ∙ ap (λ (n : ℕ). every n (place_right c.args.self.now)) e
