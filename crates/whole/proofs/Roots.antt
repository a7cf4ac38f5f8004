-- Laws of the whole square root: what it is, that it is the only one, and that it grows with its number, by no more than the number does.
-- Assumes nothing.
use mathlib.Core.Path.{◌≡◌, refl}
use mathlib.Core.Bool.{Bool, true, false, cond}
use Prim.Native.Nat.{ℕ, zero, suc, ◌+◌, ◌*◌, ◌/◌, ◌≤◌, ◌<◌}
use native.Mathlib.Nat.{mul-le-mul, le_antisymm}
use native.Mathlib.Omega.{arith, by_contra}
use lib.Dec.{leb, eqb}
use borrow.Author.Tests.{leb-true, leb-false, eqb-true, eqb-false}
use Rattle.whole.specs.Root.{IsRoot, next, digits, root_of}

next_is : (q r : ℕ) → IsRoot (q / 4) r → IsRoot q (next q r)
next_is q r h = go (leb ((2 * r + 1) * (2 * r + 1)) q) refl
  where
    go : (b : Bool) → leb ((2 * r + 1) * (2 * r + 1)) q ≡ b → IsRoot q (cond b (2 * r + 1) (2 * r))
    go true e = record { low = leb-true _ _ e; high = omega arith }
    go false e = record { low = omega arith; high = leb-false _ _ e }

digits_is : (n q : ℕ) → q ≤ n → IsRoot q (digits n q)
unfolding digits
digits_is zero q h = record { low = omega arith; high = omega arith }
digits_is (suc n) q h = go (eqb q 0) refl (digits_is n (q / 4))
  where
    go : (b : Bool) → eqb q 0 ≡ b → (q / 4 ≤ n → IsRoot (q / 4) (digits n (q / 4))) → IsRoot q (cond b 0 (next q (digits n (q / 4))))
    go true e ih = record { low = omega arith; high = omega (arith, eqb-true q 0 e) }
    go false e ih = let some = eqb-false q 0 e in next_is q (digits n (q / 4)) (ih (omega arith))

pub root_is : (q : ℕ) → IsRoot q (root_of q)
unfolding root_of
root_is q = digits_is q q (omega arith)

-- squares tell the order
pub sq_le : (r s : ℕ) → r * r < (s + 1) * (s + 1) → r ≤ s
sq_le r s h = by_contra r s (λ k. let g : s + 1 ≤ r = omega arith in omega (arith, mul-le-mul g g))

pub root_unique : (q r : ℕ) → IsRoot q r → r ≡ root_of q
root_unique q r h = let k = root_is q in le_antisymm (sq_le r (root_of q) (omega arith)) (sq_le (root_of q) r (omega arith))

pub root_mono : (p q : ℕ) → p ≤ q → root_of p ≤ root_of q
root_mono p q h = sq_le (root_of p) (root_of q) (omega (arith, (root_is p).low, (root_is q).high))

pub root_grows : (q d : ℕ) → root_of (q + d) ≤ root_of q + d
root_grows q d = sq_le (root_of (q + d)) (root_of q + d) (omega (arith, (root_is q).high, (root_is (q + d)).low))

pub root_pos : (q : ℕ) → 0 < q → 0 < root_of q
root_pos q h = sq_le 1 (root_of q) (omega (arith, (root_is q).high))
