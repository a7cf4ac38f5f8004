-- The size `nat_abs z` of a whole number, for ranges: of sums, differences and multiples, and what fits a signed width.
-- Assumes nothing.
use mathlib.Core.Path.{◌≡◌, refl}
use Prim.Native.Nat.{ℕ, zero, suc, ◌+◌, ◌*◌, ◌^◌, ◌≤◌, ◌<◌, zero-le}
use native.Mathlib.Nat.{le-suc, le_trans, lt_of_le_of_lt}
use native.Mathlib.Omega.{arith}
use lib.IntN.{ℤ, pos, negsuc, neg_ℤ, nat_abs, ◌+ℤ◌, ◌-ℤ◌, ◌*ℤ◌}
use mir.Syntax.{Width}
use mir.Val.{SFits, hbits}
use Rattle.whole.proofs.Parts.{up, dn, add_parts}

pub abs_parts : (z : ℤ) → nat_abs z ≡ up z + dn z
abs_parts (pos n) = omega arith
abs_parts (negsuc n) = omega arith

-- z is from -m to m
pub abs_most : (z : ℤ) (m : ℕ) → up z ≤ m + dn z → dn z ≤ m + up z → nat_abs z ≤ m
abs_most (pos n) m h k = omega arith
abs_most (negsuc n) m h k = omega arith

pub abs_neg : (z : ℤ) → nat_abs (neg_ℤ z) ≡ nat_abs z
abs_neg (pos zero) = refl
abs_neg (pos (suc n)) = refl
abs_neg (negsuc n) = refl

pub abs_add : (a b : ℤ) → nat_abs (a +ℤ b) ≤ nat_abs a + nat_abs b
abs_add a b =
    let e = add_parts a b in
    let p = abs_parts a in
    let q = abs_parts b in
    abs_most (a +ℤ b) (nat_abs a + nat_abs b) (omega arith) (omega arith)

pub abs_sub : (a b : ℤ) → nat_abs (a -ℤ b) ≤ nat_abs a + nat_abs b
abs_sub a b = omega (arith, abs_add a (neg_ℤ b), abs_neg b)

pub abs_times : (k : ℕ) (z : ℤ) → nat_abs (pos k *ℤ z) ≡ k * nat_abs z
abs_times k (pos n) = refl
abs_times k (negsuc n) = abs_neg (pos (k * suc n))

-- ---- what fits a signed width
pub fits_abs : {w : Width} {z : ℤ} → nat_abs z < 2 ^ hbits w → SFits w z
fits_abs {z = pos n} h = record { sfits = h }
fits_abs {z = negsuc n} h = record { sfits = lt_of_le_of_lt (le-suc n) h }

pub fits_parts : {w : Width} {z : ℤ} → up z < 2 ^ hbits w → dn z ≤ 2 ^ hbits w → SFits w z
fits_parts {z = pos n} h k = record { sfits = h }
fits_parts {z = negsuc n} h k = record { sfits = k }

-- y is no further from zero than z, on either side
pub fits_within : {w : Width} (y z : ℤ) → up y ≤ up z → dn y ≤ dn z → SFits w z → SFits w y
fits_within y (pos n) h k f = fits_parts (lt_of_le_of_lt h f.sfits) (le_trans k zero-le)
fits_within y (negsuc n) h k f = fits_parts (lt_of_le_of_lt (le_trans h zero-le) f.sfits) (le_trans k f.sfits)
