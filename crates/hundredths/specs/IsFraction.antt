-- The whole-number fraction that a float is. Assumes nothing.
use Rattle.std.specs.Prelude.{◌≡◌, ℕ, ◌*◌, ◌^◌, ◌<◌, Float}
use Rattle.hundredths.specs.declared.Fraction.{Fraction}
use Rattle.hundredths.specs.Reading.{numerator, denominator}

-- the size of x is exactly digits / 2 ^ places, of 24 binary digits at most
pub record IsFraction (x : Float) (r : Fraction) : Type 0 where
  pub value : numerator x * 2 ^ r.places ≡ r.digits * denominator x
  pub small : r.digits < 2 ^ 24

-- up to here a float's last digit counts 1 or less, so it is such a fraction
abbrev pub most_exact : ℕ
most_exact = 0xff_ffff
