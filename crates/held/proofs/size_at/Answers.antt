-- The mark tells the count.
use mathlib.Core.Path.{◌≡◌, sym, ap, ◌∙◌}
use mathlib.Core.Bool.{true, false}
use Prim.Native.Nat.{ℕ, ◌+◌, ◌-◌, ◌*◌, ◌≤◌}
use native.Mathlib.Omega.{arith}
use Rattle.held.specs.Held.{size, letter, has_blocks, count_in, size_for, most}
use Rattle.held.proofs.Sizes.{with_blocks, count_some, count_none, size_some}
use Rattle.held.proofs.size_at.Goals as goal

-- a mark that tells of no blocks, and one that does
alone : (f m : ℕ) → m ≡ f → has_blocks m ≡ false → (size ≡ size_for (count_in f)) × (size ≤ most)
alone f m e h = (sym (ap (λ (n : ℕ). size_for (count_in n)) (sym e) ∙ ap size_for (count_none m h)), omega arith)

some : (f m : ℕ) → m ≡ f → has_blocks m ≡ true → (size + 4 * (m - letter) + 4 ≡ size_for (count_in f)) × (size + 4 * (m - letter) + 4 ≤ most)
some f m e h =
    let w = with_blocks m h in
    let n = size_some (m - letter) (omega arith) in
    (omega arith ∙ sym (ap (λ (n : ℕ). size_for (count_in n)) (sym e) ∙ ap size_for (count_some m h) ∙ n), omega arith)

pub returns-then-not-has_blocks : goal.returns-then-not-has_blocks
returns-then-not-has_blocks c = alone _ c.field-mark.result c.field-mark.ensures.0 (sym c.has_blocks.ensures ∙ c.if-not-has_blocks.true)

pub overflow_sub-result : goal.overflow_sub-result
overflow_sub-result c = omega (arith, with_blocks c.field-mark.result (sym c.has_blocks.ensures ∙ c.if-not-has_blocks.false))

pub returns : goal.returns
returns c = some _ c.field-mark.result c.field-mark.ensures.0 (sym c.has_blocks.ensures ∙ c.if-not-has_blocks.false)
