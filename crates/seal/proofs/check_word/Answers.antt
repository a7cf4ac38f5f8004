use Rattle.std.proofs.Common.{◌≡◌, ℕ, List, arith, ap, take, ◌+◌, ◌*◌, ◌%◌, ◌^◌, ◌∙◌}
use mathlib.Core.Path.{ap₂}
use lib.Seq.{take_all}
use Rattle.seal.specs.Seal.{sum, running, check_word}
use Rattle.seal.proofs.Sums.{step}
use Rattle.seal.proofs.check_word.Goals as goal

pub loop-byte-preserved : goal.loop-byte-preserved
loop-byte-preserved c =
    let l = c.loop-byte in
    let n = step l.sum l.sums l.byte-index c.args.s.now (omega arith) l.invariant.1 l.invariant.2 in
    (omega arith, n.0, n.1)

pub returns : goal.returns
unfolding check_word
returns c =
    let s = c.args.s.now in
    let l = c.loop-byte in
    let e : take l.byte-index s ≡ s = take_all l.byte-index s (omega arith) in
    ap₂ (λ (x y : ℕ). x * 65536 + y) (l.invariant.1 ∙ ap (λ (u : List ℕ). sum u % 2 ^ 16) e) (l.invariant.2 ∙ ap (λ (u : List ℕ). sum (running 0 u) % 2 ^ 16) e)
