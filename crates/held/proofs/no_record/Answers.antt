-- The size tells whether there are blocks.
use mathlib.Core.Path.{◌≡◌, refl, sym, ap, ap₂, ◌∙◌}
use mathlib.Core.Bool.{Bool, true, not, ◌||◌, or-false}
use mathlib.Core.List.{List}
use Prim.Native.Nat.{ℕ, zero, suc, ◌-◌, ◌<◌}
use native.Mathlib.Omega.{arith}
use lib.ListN.{length, length-drop}
use lib.Seq.{take_all, length-take-le}
use borrow.Author.Tests.{eq-eqb, ne_eqb}
use Rattle.record.specs.Record.{wrong_length}
use Rattle.seal.specs.Seal.{is_sealed}
use Rattle.held.specs.Held.{size, size_for, front_at, behind_at, count_at, no_front, no_behind, no_record}
use Rattle.held.proofs.Sizes.{size_none, some_blocks}
use Rattle.held.proofs.no_record.Goals as goal

behind_some : (n : ℕ) (s : List ℕ) → 0 < n → no_behind n s ≡ not (is_sealed s)
behind_some zero s h = absurd (omega arith)
behind_some (suc n) s h = refl

module _ (s : List ℕ) where
  wrong_size : (length s ≡ size_for (count_at s) → ⊥) → true ≡ no_record s
  unfolding no_record wrong_length
  wrong_size h = sym (ap (λ (b : Bool). not b || no_front (front_at s) || no_behind (count_at s) (behind_at s)) (ne_eqb (length s) (size_for (count_at s)) h))

  module _ (e : length s ≡ size_for (count_at s)) where
    right_size : no_record s ≡ no_front (front_at s) || no_behind (count_at s) (behind_at s)
    unfolding no_record wrong_length
    right_size = ap (λ (b : Bool). not b || no_front (front_at s) || no_behind (count_at s) (behind_at s)) (eq-eqb (length s) (size_for (count_at s)) e)

    alone : length s ≡ size → no_record s ≡ no_front (front_at s)
    alone h =
        right_size
        ∙ ap (λ (n : ℕ). no_front (front_at s) || no_behind n (behind_at s)) (size_none (count_at s) (sym e ∙ h))
        ∙ or-false (no_front (front_at s))

    some : (length s ≡ size → ⊥) → no_record s ≡ no_front (front_at s) || not (is_sealed (behind_at s))
    some h = right_size ∙ ap (λ (b : Bool). no_front (front_at s) || b) (behind_some (count_at s) (behind_at s) (some_blocks (count_at s) (λ z. h (e ∙ z))))

pub slice_bounds-size_at-end : goal.slice_bounds-size_at-end
slice_bounds-size_at-end c = sym (length-take-le size c.args.s.now (omega arith))

pub slice_bounds-no_front-end : goal.slice_bounds-no_front-end
slice_bounds-no_front-end c = sym (length-take-le size c.args.s.now (omega arith))

pub returns-then-s-lt-SIZE : goal.returns-then-s-lt-SIZE
returns-then-s-lt-SIZE c = wrong_size c.args.s.now (λ e. omega arith)

pub returns-then-s-size_at : goal.returns-then-s-size_at
returns-then-s-size_at c = wrong_size c.args.s.now (λ e. c.if-s-size_at.true (e ∙ sym c.size_at.ensures.0))

pub returns-then-s-eq-SIZE : goal.returns-then-s-eq-SIZE
returns-then-s-eq-SIZE c = c.no_front-front.ensures ∙ sym (alone c.args.s.now (c.if-s-size_at.false ∙ c.size_at.ensures.0) c.if-s-eq-SIZE.true)

pub returns : goal.returns
returns c =
    let s = c.args.s.now in
    ap₂ (λ (a b : Bool). a || not b) c.no_front-front.ensures (c.is_sealed.ensures ∙ ap is_sealed (take_all (length s - size) (behind_at s) (simp length-drop (omega arith))))
    ∙ sym (some s (c.if-s-size_at.false ∙ c.size_at.ensures.0) c.if-s-eq-SIZE.false)
