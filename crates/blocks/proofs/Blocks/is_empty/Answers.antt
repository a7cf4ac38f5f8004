use Rattle.std.proofs.Common.{◌≡◌, ◌∙◌, length, rules, ap, arith, ℕ}
use Rattle.std.proofs.lemmas.Slice.Zip.{zip_end}
use Rattle.table.specs.Table.{every}
use Rattle.blocks.specs.Blocks.{most}
use Rattle.blocks.specs.Steps.{empty_at, empty}
use Rattle.blocks.proofs.Blocks.is_empty.Goals as goal

pub returns : goal.returns
unfolding empty
returns c =
    let b = c.args.self.now in
    let lengths : length b.lengths ≡ most = search rules in
    let weights : length b.weights ≡ most = search rules in
    let n = zip_end b.lengths b.weights c.loop-length.yielded c.into_iter-length-iterator.result c.loop-length.length-iterator c.next.new.self c.next.result (cc) (cc) c.loop-length.yielded_by c.in-None.is c.next.ensures.steps in
    let e : length c.loop-length.yielded ≡ most = omega (arith, n) in
    c.loop-length.invariant ∙ ap (λ (n : ℕ). every n (empty_at b.lengths b.weights)) e
