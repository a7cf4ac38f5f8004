use Rattle.std.proofs.Common.{◌≡◌, length, rules, refl, arith}
use Rattle.blocks.specs.Blocks.{most, sums_right}
use Rattle.blocks.proofs.Sums.{sum_front}
use Rattle.blocks.proofs.Blocks.sums_right.Goals as goal

pub returns : goal.returns
unfolding sums_right
returns c =
    let b = c.args.self.now in
    let lengths : length b.lengths ≡ most = search rules in
    let weights : length b.weights ≡ most = search rules in
    rw (c.sum_of.ensures, c.sum_of-2.ensures, sum_front b.lengths b.count (omega arith), sum_front b.weights b.count (omega arith)) refl
