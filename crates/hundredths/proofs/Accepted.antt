-- A reading is refused exactly where it is out of range; what is known of an accepted one. Assumes nothing.
use mathlib.Core.Path.{◌≡◌, refl, sym}
use mathlib.Core.Bool.{Bool, true, false, not, ◌||◌, true≢false}
use Prim.Native.Nat.{ℕ, ◌*◌, ◌^◌, ◌≤◌, ◌<◌}
use native.Mathlib.Nat.{le_trans, le_of_eq, add-zero, mul-one, mul_assoc, mul-le-mul_left, mul-le-mul_right, div-one}
use lib.Dec.{T, lit<}
use lib.Ieee.{Float, nan, inf, fin, binary32, is_nan, of_bits, to_bits}
use lib.Ieee.Bits.{to_bits-of_bits}
use lib.Ieee.Fits.{down_pos}
use borrow.Author.Tests.{ltb-false, le-ltb}
use Rattle.whole.specs.Ceiling.{ceil_div}
use Rattle.hundredths.specs.Reading.{Hundredths, Refused}
use Rattle.hundredths.specs.declared.Rounding.{Rounding}
use Rattle.hundredths.specs.declared.Rounding.TheVariants.{Up, Down}
use Rattle.hundredths.specs.Reading.{numerator, denominator, rounded, hundredths_of, infinite, below_zero, above_limit, is_bad, most_speed, most_psi, judged, speed_of, pressure_of}
use Rattle.hundredths.proofs.Rounded.{rounded_mono}

-- ---- refused, and accepted

refused : (b : Bool) (h : ℕ) → judged b h ≡ Refused → b ≡ true
refused true h e = refl
refused false h e = cc

accepted : (b : Bool) (h : ℕ) {n : ℕ} → judged b h ≡ Hundredths n → (b ≡ false) × (n ≡ h)
accepted true h e = (cc, cc)
accepted false h e = (refl, cc)

pub speed_refused : (x : Float) → speed_of x ≡ Refused → is_bad most_speed x ≡ true
unfolding speed_of
speed_refused x = refused (is_bad most_speed x) (hundredths_of Up x)

pub speed_accepted : (x : Float) {n : ℕ} → speed_of x ≡ Hundredths n → (is_bad most_speed x ≡ false) × (n ≡ hundredths_of Up x)
unfolding speed_of
speed_accepted x e = accepted (is_bad most_speed x) (hundredths_of Up x) e

pub pressure_refused : (x : Float) → pressure_of x ≡ Refused → is_bad most_psi x ≡ true
unfolding pressure_of
pressure_refused x = refused (is_bad most_psi x) (hundredths_of Down x)

pub pressure_accepted : (x : Float) {n : ℕ} → pressure_of x ≡ Hundredths n → (is_bad most_psi x ≡ false) × (n ≡ hundredths_of Down x)
unfolding pressure_of
pressure_accepted x e = accepted (is_bad most_psi x) (hundredths_of Down x) e

-- ---- its bits

pub no_nan : (limit : ℕ) (x : Float) → is_bad limit x ≡ false → T (not (is_nan x))
unfolding is_bad is_nan
no_nan limit nan ok = absurd (true≢false ok)
no_nan limit (inf s) ok = tt
no_nan limit (fin s m e) ok = tt

-- they come back as received
pub bits_back : (limit bits : ℕ) → bits < 2 ^ 32 → is_bad limit (of_bits binary32 bits) ≡ false → to_bits binary32 (of_bits binary32 bits) ≡ bits
bits_back limit bits fit ok = to_bits-of_bits binary32 bits fit (no_nan limit (of_bits binary32 bits) ok)

-- ---- its value is at most the limit

neither : (a b : Bool) → (a || b) ≡ false → (a ≡ false) × (b ≡ false)
neither true b h = absurd (true≢false h)
neither false b h = (refl, h)

parts : (limit : ℕ) (x : Float) → is_bad limit x ≡ false → ((is_nan x || infinite x || below_zero x) ≡ false) × (above_limit limit x ≡ false)
unfolding is_bad
parts limit x ok = neither (is_nan x || infinite x || below_zero x) (above_limit limit x) ok

pub at_most : (limit : ℕ) (x : Float) → is_bad limit x ≡ false → numerator x ≤ limit * denominator x
at_most limit x ok = ltb-false (limit * denominator x) (numerator x) (parts limit x ok).1

-- what is within a limit is within a higher one
pub wider : (limit higher : ℕ) (x : Float) → limit ≤ higher → is_bad limit x ≡ false → is_bad higher x ≡ false
unfolding is_bad
wider limit higher x h ok =
    simp ((parts limit x ok).0, le-ltb (higher * denominator x) (numerator x) (le_trans (at_most limit x ok) (mul-le-mul_right (denominator x) h)))

-- ---- and its hundredths at most the limit's

pub denominator_pos : (x : Float) → 0 < denominator x
denominator_pos nan = lit< tt
denominator_pos (inf s) = lit< tt
denominator_pos (fin s m e) = down_pos e

whole : (r : Rounding) (q : ℕ) → rounded r q 1 ≡ q
unfolding ceil_div
whole Up q = simp (add-zero, div-one)
whole Down q = div-one q

pub hundredths_most : (r : Rounding) (limit : ℕ) (x : Float) → is_bad limit x ≡ false → hundredths_of r x ≤ 100 * limit
unfolding hundredths_of
hundredths_most r limit x ok =
    le_trans
    (rounded_mono r (100 * numerator x) (denominator x) (100 * limit) 1 (denominator_pos x) (lit< tt)
    (le_trans (le_of_eq (mul-one (100 * numerator x))) (le_trans (mul-le-mul_left 100 (at_most limit x ok)) (le_of_eq (sym (mul_assoc 100 limit (denominator x)))))))
    (le_of_eq (whole r (100 * limit)))
