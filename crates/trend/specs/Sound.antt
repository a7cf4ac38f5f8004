-- What the sums of at most 256 points are within, and what the line's words have room for. Definitions only.
use Rattle.std.specs.Prelude.{ℕ, ◌*◌, ◌≤◌, ◌≡◌, Bool, ◌&&◌, leb, ℤ, pos, nat_abs, ◌*ℤ◌, ◌<ℤ◌}
use Rattle.whole.specs.Floor.{floor_div}
use Rattle.trend.specs.declared.Sums.{Sums}

-- "At most 256 points are kept"
abbrev pub most : ℕ
most = 256

-- a point's time: "600 seconds since the front fell, ends learning"
abbrev pub most_seconds : ℕ
most_seconds = 599

-- its pressure, of 160 psi
abbrev pub most_pressure : ℕ
most_pressure = 16000

pub record Sound (s : Sums) : Type 0 where
  pub count : s.count ≤ most
  pub times : s.times ≤ most_seconds * s.count
  pub squares : s.squares ≤ most_seconds * most_seconds * s.count
  pub pressures : s.pressures ≤ most_pressure * s.count
  pub products : s.products ≤ most_seconds * most_pressure * s.count

unfoldable pub is_sound : Sums → Bool
is_sound s =
    leb s.count most
    && leb s.times (most_seconds * s.count)
    && leb s.squares (most_seconds * most_seconds * s.count)
    && leb s.pressures (most_pressure * s.count)
    && leb s.products (most_seconds * most_pressure * s.count)

-- sound sums with one point more, whatever its pressure
pub record Small (s : Sums) : Type 0 where
  pub count : s.count ≤ 257
  pub times : s.times ≤ 160000
  pub squares : s.squares ≤ 93000000
  pub pressures : s.pressures ≤ 4200000
  pub products : s.products ≤ 2500000000

-- the greatest product of two such sums
abbrev pub word_most : ℕ
word_most = 400000000000000

-- a × b − c × d, of products that are at most m
pub record Room (m a b c d : ℕ) : Type 0 where
  pub first : a * b ≤ m
  pub second : c * d ≤ m

-- X and Y of small sums, as what they are divided by has room for them
pub record Fraction (x y : ℤ) : Type 0 where
  pub dividend : nat_abs x ≤ 2200000000000000
  pub above : pos 0 <ℤ y
  pub divisor : nat_abs y ≤ 100000000000000

-- 100 X / Y down, where no end of the range holds the time
pub record Quotient (x y quotient : ℤ) : Type 0 where
  pub fraction : Fraction x y
  pub down : quotient ≡ floor_div (pos 100 *ℤ x) y
  pub within : nat_abs quotient ≤ 1000
