use Rattle.std.proofs.Common.{◌≡◌, ◌∙◌, ◌+◌, ◌*◌, ◌-◌, ◌≤◌, ◌++◌, length, drop, ap, arith, ℕ}
use Rattle.blocks.specs.Blocks.{size, bytes_to, bytes_of}
use Rattle.blocks.proofs.Putting.{put_none, put_next}
use Rattle.blocks.proofs.put.Goals as goal

pub loop-k-init : goal.loop-k-init
loop-k-init c = put_none _ _

pub loop-k-preserved : goal.loop-k-preserved
loop-k-preserved c =
    let l = c.loop-k in
    let a = c.args in
    let room : size * (l.k + 1) ≤ length a.out.now = omega arith in
    let m : size * l.k + size - size * l.k ≡ size = omega arith in
    put_next a.b a.out.now l.k l.out l.invariant room _ _ _ m c.word_of.ensures c.put_word.ensures

pub returns : goal.returns
unfolding bytes_of
returns c =
    let l = c.loop-k in
    let a = c.args in
    let e : l.k ≡ a.b.count = omega arith in
    l.invariant.so_far ∙ ap (λ (k : ℕ). bytes_to a.b k ++ drop (size * k) a.out.now) e
