-- Eleven bits and the grade that they are: each undoes the other. Assumes nothing.
use mathlib.Core.Path.{◌≡◌, refl, sym, ap, ◌∙◌}
use mathlib.Core.Bool.{◌&&◌, and-true}
use Prim.Native.Nat.{ℕ, suc, ◌+◌, ◌-◌, ◌%◌, ◌≤◌, ◌<◌, ◌^◌}
use native.Mathlib.Decide.{dec_lt}
use native.Mathlib.Omega.{arith}
use lib.Dec.{leb, eqb, leb-suc-suc, eqb-suc-zero}
use lib.IntN.{ℤ, pos, negsuc, nat_abs}
use lib.Signed.{mag, le_z}
use mir.Syntax.{w16}
use mir.Val.{of_z}
use borrow.Author.Tests.{lt-ltb, le-ltb, ne_eqb}
use Rattle.profile.specs.Grade.{grade_of, grade_bits}
use Rattle.profile.specs.Profile.{steepest}

pub lower_half : (n : ℕ) → n < 2 ^ 10 → grade_of n ≡ pos n
lower_half n h = rw (lt-ltb n (2 ^ 10) h)

pub upper_half : (n : ℕ) → 2 ^ 10 ≤ n → n < 2 ^ 11 → grade_of n ≡ negsuc (2 ^ 11 - suc n)
upper_half n h k = rw (le-ltb n (2 ^ 10) h, lt-ltb n (2 ^ 11) k)

pub bits_of_grade : (n : ℕ) → n < 2 ^ 11 → grade_bits (grade_of n) ≡ n
bits_of_grade n h = by (dec_lt n (2 ^ 10))
  where
    by : Dec (n < 2 ^ 10) → grade_bits (grade_of n) ≡ n
    by (yes l) = ap grade_bits (lower_half n l)
    by (no l) = ap grade_bits (upper_half n (omega arith) h) ∙ omega arith

pub grade_of_bits : (z : ℤ) → mag z < 2 ^ 10 → grade_of (grade_bits z) ≡ z
grade_of_bits (pos n) h = lower_half n h
grade_of_bits (negsuc n) h = upper_half (2 ^ 11 - suc n) (omega arith) (omega arith) ∙ ap negsuc (omega arith)

-- from -500 to 500
pub both_ends : (z : ℤ) → le_z (negsuc 499) z && le_z z (pos 500) ≡ leb (nat_abs z) steepest
both_ends (pos n) = refl
both_ends (negsuc n) = and-true (leb n 499) ∙ sym (leb-suc-suc n 499)

-- a grade that is in range has eleven bits
pub in_eleven : (z : ℤ) → nat_abs z ≤ steepest → mag z < 2 ^ 10
in_eleven (pos n) h = omega arith
in_eleven (negsuc n) h = omega arith

-- the bits of a grade are the lowest of what is 2 ^ 11 more, which is raised zero
abbrev pub raised : ℤ → ℕ
raised (pos n) = n + 2 ^ 11
raised (negsuc n) = 2 ^ 11 - suc n

pub lowest_bits : (z : ℤ) → mag z < 2 ^ 10 → (raised z < 2 ^ 12) × (raised z % 2 ^ 11 ≡ grade_bits z)
lowest_bits (pos n) h = omega arith
lowest_bits (negsuc n) h = omega arith

-- the bits of a number are zero where the number is
pub zero_bits : (z : ℤ) → mag z < 2 ^ 15 → eqb (of_z w16 z) 0 ≡ eqb (nat_abs z) 0
zero_bits (pos n) h = refl
zero_bits (negsuc n) h = ne_eqb (2 ^ 16 - suc n) 0 (λ e. omega arith) ∙ sym (eqb-suc-zero n)
