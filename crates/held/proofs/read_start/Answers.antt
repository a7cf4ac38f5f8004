use Rattle.std.proofs.Common.{ℕ, List, take, sym, ap, arith, ◌∙◌}
use lib.Seq.{length-take-le}
use Rattle.held.specs.Held.{size, read_told, read_session}
use Rattle.held.proofs.Sizes.{in_buffer}
use Rattle.held.proofs.read_start.Goals as goal

pub returns : goal.returns
returns c =
    let s = c.args.s.now in
    c.read.ensures
    ∙ ap (λ (b : List ℕ). read_told (read_session b)) (ap (λ (n : ℕ). take n s) c.size_at-size.ensures.0 ∙ sym (in_buffer s (omega arith)))

pub slice_bounds-size_at-end : goal.slice_bounds-size_at-end
slice_bounds-size_at-end c = sym (length-take-le size c.args.s.now (omega arith))
