-- The exact value of a float below 2 ^ 24, read off its bit pattern. Assumes nothing.
use mathlib.Core.Path.{◌≡◌, refl, sym, ap, ◌∙◌, subst}
use mathlib.Core.Bool.{Bool, true, false, cond, true≢false}
use Prim.Native.Nat.{ℕ, zero, suc, ◌+◌, ◌-◌, ◌*◌, ◌/◌, ◌%◌, ◌^◌, ◌≤◌}
use native.Mathlib.Nat.{le_trans, le_of_eq, lt_of_not-le, not-le_of_lt, le_of_suc-le-suc, mul_assoc, mul_right_comm, mul-le-mul_right, mul-le-mul, le_of_mul-le-mul_right, eq_of_mul-eq-mul_right, le-add_right}
use native.Mathlib.Omega.{arith}
use lib.Dec.{leb, eqb, lit<}
use lib.Pow.{pow-add, pow_pos, pow_mono}
use lib.Ieee.{Float, nan, inf, fin, binary32, is_nan, odd, of_fields, of_bits}
use lib.Ieee.Exact.{HasValue, odd_sign}
use Rattle.hundredths.specs.IsFraction.{IsFraction, most_exact}
use Rattle.hundredths.specs.Reading.{numerator, denominator, is_bad}
use Rattle.hundredths.proofs.Accepted.{at_most, denominator_pos}

-- the size of x is q * 2 ^ k / 2 ^ 149
abbrev Scaled : Float → ℕ → ℕ → Type 0
Scaled x q k = numerator x * 2 ^ 149 ≡ q * 2 ^ k * denominator x

-- q and k by the exponent's field f and the tail t of 23 digits: a field of 0 stands for no leading digit, and counts as 1
abbrev whole_of : ℕ → ℕ → ℕ
whole_of zero t = t
whole_of (suc f) t = 0x80_0000 + t

abbrev exponent_of : ℕ → ℕ
exponent_of zero = 0
exponent_of (suc f) = f

odd_scaled : (s : Bool) (q k : ℕ) → Scaled (odd 24 s q k 149) q k
odd_scaled s q k = go (odd 24 s q k 149) (odd_sign 24 s q k 149)
  where
    go : (x : Float) → HasValue x s (q * 2 ^ k) (2 ^ 149) → Scaled x q k
    go nan v = absurd v
    go (inf t) v = absurd v
    go (fin t m e) v = v.1

fields_scaled : (limit : ℕ) (s : Bool) (f t : ℕ) → is_bad limit (of_fields binary32 s f t) ≡ false → Scaled (of_fields binary32 s f t) (whole_of f t) (exponent_of f)
unfolding of_fields is_bad is_nan
fields_scaled limit s zero t ok = odd_scaled s t 0
fields_scaled limit s (suc f) t ok = go (eqb (suc f) 255) (eqb t 0) ok
  where
    go : (top none : Bool) → let x = cond top (cond none (inf s) nan) (odd 24 s (0x80_0000 + t) f 149) in is_bad limit x ≡ false → Scaled x (0x80_0000 + t) f
    go true true h = absurd (true≢false h)
    go true false h = absurd (true≢false h)
    go false none h = odd_scaled s (0x80_0000 + t) f

-- b is a pattern of x, which is neither below zero nor above `most_exact`
module _ (b : ℕ) {x : Float} (pattern : of_bits binary32 b ≡ x) (ok : is_bad most_exact x ≡ false) where
  abbrev field : ℕ
  field = b % 0x8000_0000 / 0x80_0000

  abbrev tail : ℕ
  tail = b % 0x80_0000

  abbrev ByField : ℕ → Type 0
  ByField f = Scaled x (whole_of f tail) (exponent_of f)

  scaled : ByField field
  unfolding of_bits
  scaled =
      subst (λ (y : Float). Scaled y (whole_of field tail) (exponent_of field)) pattern
      (fields_scaled most_exact (leb 0x8000_0000 b) field tail (subst (λ (y : Float). is_bad most_exact y ≡ false) (sym pattern) ok))

  -- a field of 151 is 2 ^ 24 or more
  too_large : (f : ℕ) → 151 ≤ f → ByField f → ⊥
  too_large zero h v = not-le_of_lt (lit< tt) h
  too_large (suc f) h v =
      not-le_of_lt (lit< {m = most_exact * 2 ^ 149} {n = 0x80_0000 * 2 ^ 150} tt)
      (le_of_mul-le-mul_right
      (le_trans (mul-le-mul_right (denominator x) (mul-le-mul (le-add_right 0x80_0000 tail) (pow_mono {i = 150} {j = f} (le_of_suc-le-suc h))))
      (le_trans (le_of_eq (sym v))
      (le_trans (mul-le-mul_right (2 ^ 149) (at_most most_exact x ok)) (le_of_eq (mul_right_comm most_exact (denominator x) (2 ^ 149))))))
      (denominator_pos x))

  pub field-le : field ≤ 150
  field-le = le_of_suc-le-suc (lt_of_not-le (λ (h : 151 ≤ field). too_large field h scaled))

  -- the exponent taken into the places
  placed : (q k places : ℕ) → places + k ≡ 149 → Scaled x q k → numerator x * 2 ^ places ≡ q * denominator x
  placed q k places e v =
      eq_of_mul-eq-mul_right (2 ^ k) (pow_pos k) (numerator x * 2 ^ places) (q * denominator x)
      (mul_assoc (numerator x) (2 ^ places) (2 ^ k) ∙ ap (λ (z : ℕ). numerator x * z) (sym (pow-add 2 places k) ∙ ap (λ (z : ℕ). 2 ^ z) e) ∙ v ∙ mul_right_comm q (2 ^ k) (denominator x))

  pub without_field : field ≡ 0 → IsFraction x (record { digits = tail; places = 149 })
  without_field e = record { value = placed tail 0 149 refl (subst ByField e scaled); small = omega arith }

  pub with_field : (field ≡ 0 → ⊥) → IsFraction x (record { digits = 0x80_0000 + tail; places = 150 - field })
  with_field some = go field some field-le scaled
    where
      go : (f : ℕ) → (f ≡ 0 → ⊥) → f ≤ 150 → ByField f → IsFraction x (record { digits = 0x80_0000 + tail; places = 150 - f })
      go zero some le v = absurd (some refl)
      go (suc f) some le v = record { value = placed (0x80_0000 + tail) f (150 - suc f) (omega arith) v; small = omega arith }
