-- Laws of division down, by a natural number k: between which multiples it lies, that nothing else does, its order and its size.
-- Assumes nothing.
use mathlib.Core.Path.{◌≡◌, ap}
use Prim.Native.Nat.{ℕ, zero, suc, ◌+◌, ◌*◌, ◌≤◌, ◌<◌}
use native.Mathlib.Nat.{div-add-mod', mod-lt, div-le_self, div-lt_iff_lt-mul, lt_of_mul-lt-mul_left, le_of_suc-le-suc, zero-lt-suc, le_antisymm}
use native.Mathlib.Omega.{arith}
use lib.IntN.{ℤ, pos, negsuc, nat_abs, ◌+ℤ◌, ◌*ℤ◌}
use mir.Syntax.{Width}
use mir.Val.{SFits}
use Rattle.whole.specs.Floor.{IsFloor, floor_div}
use Rattle.whole.proofs.Parts.{up, dn, add_parts, times_up, times_dn, parts_eq}
use Rattle.whole.proofs.Order.{le_parts, lt_parts, parts_le, parts_lt}
use Rattle.whole.proofs.Size.{abs_parts, fits_within}

-- k * f ≤ z, and z < k * (f + 1), over the parts
abbrev pub Low : ℤ → ℕ → ℤ → Type 0
Low z k f = k * up f + dn z ≤ up z + k * dn f

abbrev pub High : ℤ → ℕ → ℤ → Type 0
High z k f = up z + k * dn f < k * up f + k + dn z

pub floor_low : (z : ℤ) (k : ℕ) → 0 < k → Low z k (floor_div z (pos k))
unfolding floor_div
floor_low z zero h = absurd (omega arith)
floor_low (pos a) (suc k) h = omega (arith, div-add-mod' a (suc k))
floor_low (negsuc a) (suc k) h = omega (arith, div-add-mod' a (suc k), mod-lt a h)

pub floor_high : (z : ℤ) (k : ℕ) → 0 < k → High z k (floor_div z (pos k))
unfolding floor_div
floor_high z zero h = absurd (omega arith)
floor_high (pos a) (suc k) h = omega (arith, div-add-mod' a (suc k), mod-lt a h)
floor_high (negsuc a) (suc k) h = omega (arith, div-add-mod' a (suc k), mod-lt a h)

-- k * a is below the multiple after k * b
within : (k a b : ℕ) → k * a < k * b + k → a ≤ b
within k a b h = le_of_suc-le-suc (lt_of_mul-lt-mul_left k {m = a} {n = suc b} (omega arith))

-- nothing else lies there
pub floor_parts : (z : ℤ) (k : ℕ) (f : ℤ) → 0 < k → Low z k f → High z k f → f ≡ floor_div z (pos k)
floor_parts z k f h low high =
    let g : ℤ = floor_div z (pos k) in
    parts_eq f g
    (le_antisymm (within k (up f + dn g) (up g + dn f) (omega (arith, floor_high z k h)))
    (within k (up g + dn f) (up f + dn g) (omega (arith, floor_low z k h))))

-- ---- the meaning of "down"
module _ (z : ℤ) (k : ℕ) (f : ℤ) where
  -- k times f, and k times one more
  once : k * up (f +ℤ pos 1) + k * dn f ≡ k * up f + k + k * dn (f +ℤ pos 1)
  once = omega (arith, ap (λ (n : ℕ). k * n) (add_parts f (pos 1)))

  is_floor : Low z k f → High z k f → IsFloor z k f
  is_floor l h =
      record {
        low = parts_le (pos k *ℤ f) z (omega (arith, times_up k f, times_dn k f));
        high = parts_lt z (pos k *ℤ (f +ℤ pos 1)) (omega (arith, times_up k (f +ℤ pos 1), times_dn k (f +ℤ pos 1), once));
      }

  low_of : IsFloor z k f → Low z k f
  low_of h = omega (arith, le_parts h.low, times_up k f, times_dn k f)

  high_of : IsFloor z k f → High z k f
  high_of h = omega (arith, lt_parts h.high, times_up k (f +ℤ pos 1), times_dn k (f +ℤ pos 1), once)

pub floor_is : (z : ℤ) (k : ℕ) → 0 < k → IsFloor z k (floor_div z (pos k))
floor_is z k h = is_floor z k (floor_div z (pos k)) (floor_low z k h) (floor_high z k h)

pub floor_unique : (z : ℤ) (k : ℕ) (f : ℤ) → 0 < k → IsFloor z k f → f ≡ floor_div z (pos k)
floor_unique z k f h d = floor_parts z k f h (low_of z k f d) (high_of z k f d)

-- ---- order
-- x is at most k * e above y: its floor is at most e above y's
pub floor_grows : (x y : ℤ) (k e : ℕ) → 0 < k → up x + dn y ≤ up y + dn x + k * e →
    let f = floor_div x (pos k) in let g = floor_div y (pos k) in up f + dn g ≤ up g + dn f + e
floor_grows x y k e h l =
    let f : ℤ = floor_div x (pos k) in
    let g : ℤ = floor_div y (pos k) in
    within k (up f + dn g) (up g + dn f + e) (omega (arith, floor_low x k h, floor_high y k h))

-- ---- size
pub floor_up : (z k : ℤ) → up (floor_div z k) ≤ up z
unfolding floor_div
floor_up (pos a) (pos (suc k)) = div-le_self a (suc k)
floor_up (negsuc a) (pos (suc k)) = omega arith
floor_up z (pos zero) = omega arith
floor_up z (negsuc k) = omega arith

pub floor_dn : (z k : ℤ) → dn (floor_div z k) ≤ dn z
unfolding floor_div
floor_dn (pos a) (pos (suc k)) = omega arith
floor_dn (negsuc a) (pos (suc k)) = omega (arith, div-le_self a (suc k))
floor_dn z (pos zero) = omega arith
floor_dn z (negsuc k) = omega arith

pub floor_fits : {w : Width} (z k : ℤ) → SFits w z → SFits w (floor_div z k)
floor_fits z k = fits_within (floor_div z k) z (floor_up z k) (floor_dn z k)

pub abs_floor : (z k : ℤ) → nat_abs (floor_div z k) ≤ nat_abs z
abs_floor z k = omega (arith, abs_parts (floor_div z k), abs_parts z, floor_up z k, floor_dn z k)

pub floor_most : (z : ℤ) (k m : ℕ) → nat_abs z ≤ m * k → nat_abs (floor_div z (pos k)) ≤ m
unfolding floor_div
floor_most z zero m h = omega arith
floor_most (pos a) (suc k) m h = le_of_suc-le-suc ((div-lt_iff_lt-mul {k = suc k} {x = a} {y = suc m} (zero-lt-suc k)).1 (omega arith))
floor_most (negsuc a) (suc k) m h = (div-lt_iff_lt-mul {k = suc k} {x = a} {y = m} (zero-lt-suc k)).1 h
