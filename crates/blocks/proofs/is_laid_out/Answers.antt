use Rattle.std.proofs.Common.{◌≡◌, ◌∙◌, ◌&&◌, ◌%◌, Bool, List, ℕ, true, false, length, eqb, leb, add-one, ap, ap₂, sym, arith}
use Rattle.table.specs.Table.{every}
use Rattle.blocks.specs.Blocks.{size, most, count, spare_zero, is_laid_out}
use Rattle.blocks.specs.Steps.{field_in}
use Rattle.blocks.proofs.is_laid_out.Goals as goal

-- how many bytes there are decides first
by_count : (s : List ℕ) (b : Bool) → eqb (length s % size) 0 && leb (count s) most ≡ b → is_laid_out s ≡ b && every (count s) (spare_zero s)
unfolding is_laid_out
by_count s b h = ap (λ (x : Bool). x && every (count s) (spare_zero s)) h

pub returns-then-not-s-n : goal.returns-then-not-s-n
returns-then-not-s-n c = sym (by_count c.args.s.now false c.if-not-s-n.true)

pub loop-k-preserved : goal.loop-k-preserved
unfolding spare_zero
loop-k-preserved c =
    let l = c.loop-k in
    let spare = c.spare_in.ensures ∙ ap (λ (x : ℕ). field_in x 2) c.word_at.ensures in
    rw (add-one l.k) (ap₂ ◌&&◌ l.invariant (ap (λ (n : ℕ). eqb n 0) spare))

pub returns : goal.returns
returns c =
    let s = c.args.s.now in
    let e : c.loop-k.k ≡ count s = omega arith in
    c.loop-k.invariant ∙ ap (λ (n : ℕ). every n (spare_zero s)) e ∙ sym (by_count s true c.if-not-s-n.false)
