-- Marks tell counts, and counts sizes. Assumes nothing.
use mathlib.Core.Path.{◌≡◌, refl, sym, ap, ◌∙◌}
use Prim.Native.Nat.{ℕ, zero, suc, ◌+◌, ◌-◌, ◌*◌, ◌≤◌, ◌<◌}
use native.Mathlib.Omega.{arith}
use mathlib.Core.Bool.{Bool, true, false, ◌||◌, cond, or-true, or-false}
use mathlib.Core.List.{List, []}
use lib.ListN.{length, take}
use lib.Dec.{eqb, ltb, leb}
use lib.Seq.{take-take}
use borrow.Author.Tests.{lt-ltb, le-leb, ltb-true, leb-true, eqb-true, not-false, le-ltb}
use Rattle.bits.proofs.Ranges.{and-true_left, and-true_right}
use Rattle.held.specs.Held.{size, letter, mark, mark_for, has_blocks, count_in, wrong_mark, size_for, most, front_at, count_at, record_at}

-- ---- sizes

pub size_some : (n : ℕ) → 0 < n → size_for n ≡ size + 4 + 4 * n
size_some zero h = absurd (omega arith)
size_some (suc n) h = omega arith

pub size_none : (n : ℕ) → size_for n ≡ size → n ≡ 0
size_none zero h = refl
size_none (suc n) h = absurd (omega arith)

pub some_blocks : (n : ℕ) → (size_for n ≡ size → ⊥) → 0 < n
some_blocks zero h = absurd (h refl)
some_blocks (suc n) h = omega arith

pub size_most : (n : ℕ) → n ≤ 64 → size_for n ≤ most
size_most zero h = omega arith
size_most (suc n) h = omega arith

-- ---- marks

-- a mark that tells of blocks is above the letter by their count
pub with_blocks : (m : ℕ) → has_blocks m ≡ true → (letter < m) × (m ≤ letter + 64)
with_blocks m e = (ltb-true letter m (and-true_left (ltb letter m) (leb m (letter + 64)) e), leb-true m (letter + 64) (and-true_right (ltb letter m) (leb m (letter + 64)) e))

pub count_some : (m : ℕ) → has_blocks m ≡ true → count_in m ≡ m - letter
unfolding count_in
count_some m e = ap (λ (b : Bool). cond b (m - letter) 0) e

pub count_none : (m : ℕ) → has_blocks m ≡ false → count_in m ≡ 0
unfolding count_in
count_none m e = ap (λ (b : Bool). cond b (m - letter) 0) e

pub count_most : (m : ℕ) → count_in m ≤ 64
count_most m = by (has_blocks m) refl
  where
    by : (b : Bool) → has_blocks m ≡ b → count_in m ≤ 64
    by true e = omega (arith, with_blocks m e, count_some m e)
    by false e = omega (arith, count_none m e)

pub mark_some : (n : ℕ) → (n ≡ 0 → ⊥) → letter + n ≡ mark_for n
mark_some zero h = absurd (h refl)
mark_some (suc n) h = refl

-- the mark of a count tells it, and what is not wrong is the mark of the count that it tells
pub count_back : (n : ℕ) → n ≤ 64 → count_in (mark_for n) ≡ n
unfolding count_in
count_back zero h = refl
count_back (suc n) h = rw (lt-ltb letter (letter + suc n) (omega arith), le-leb (letter + suc n) (letter + 64) (omega arith)) (omega arith)

pub mark_right : (n : ℕ) → n ≤ 64 → wrong_mark (mark_for n) ≡ false
unfolding wrong_mark
mark_right zero h = refl
mark_right (suc n) h = rw (lt-ltb letter (letter + suc n) (omega arith), le-leb (letter + suc n) (letter + 64) (omega arith)) (simp or-true)

pub mark_back : (m : ℕ) → wrong_mark m ≡ false → m ≡ mark_for (count_in m)
unfolding wrong_mark
mark_back m h = by (has_blocks m) refl (not-false (eqb m mark || has_blocks m) h)
  where
    by : (b : Bool) → has_blocks m ≡ b → eqb m mark || has_blocks m ≡ true → m ≡ mark_for (count_in m)
    by true e o =
        let k = m - suc letter in
        let w = with_blocks m e in
        let q : count_in m ≡ suc k = count_some m e ∙ omega arith in
        let z : m ≡ letter + suc k = omega arith in
        z ∙ sym (ap mark_for q)
    by false e o = eqb-true m mark (rw (e, or-false) at o) ∙ sym (ap mark_for (count_none m e))

pub mark_fits : (n : ℕ) → n ≤ 64 → mark_for n < 65536
mark_fits zero h = omega arith
mark_fits (suc n) h = omega arith

-- ---- the record in a buffer

pub no_buffer : (s : List ℕ) → length s < most → record_at s ≡ []
unfolding record_at
no_buffer s h = ap (λ (b : Bool). cond b [] (take (size_for (count_at s)) s)) (lt-ltb (length s) most h)

module _ (s : List ℕ) (h : most ≤ length s) where
  pub in_buffer : record_at s ≡ take (size_for (count_at s)) s
  unfolding record_at
  in_buffer = ap (λ (b : Bool). cond b [] (take (size_for (count_at s)) s)) (le-ltb (length s) most h)

  -- it has the same front, and so tells of as many blocks
  pub same_front : front_at (record_at s) ≡ front_at s
  same_front = ap front_at in_buffer ∙ take-take size (size_for (count_at s)) s (omega arith)
