-- What a reading is in hundredths, and when it is refused: a quotation is document 01's, over the definition that says it. Definitions only. Assumes nothing.
use Rattle.std.specs.Prelude.{Option, Some, None, ℕ, ◌*◌, ◌/◌, Bool, true, false, ◌&&◌, ◌||◌, List, [], ◌∷◌, ltb, Float}
use Rattle.std.specs.Float.{nan, inf, fin}
use Rattle.std.specs.Float.Ieee.{up, down, is_nan}
use Rattle.whole.specs.Ceiling.{ceil_div}
use Rattle.hundredths.specs.declared.Rounding.{Rounding}
use Rattle.hundredths.specs.declared.Rounding.TheVariants.{Up, Down}

-- what a reading is: its hundredths, or none where it is refused
abbrev pub Reading : Type 0
Reading = Option ℕ

pattern abbrev pub Hundredths : ℕ → Reading
Hundredths n = Some n

pattern abbrev pub Refused : Reading
Refused = None

-- "its exact value": the fraction numerator x / denominator x, the sign aside. A finite float `fin s m e` is m * 2 ^ e, negative where s is true, and 2 ^ e is up e / down e.
abbrev pub numerator : Float → ℕ
numerator nan = 0
numerator (inf s) = 0
numerator (fin s m e) = m * up e

abbrev pub denominator : Float → ℕ
denominator nan = 1
denominator (inf s) = 1
denominator (fin s m e) = down e

-- a / b, "rounded up" or "rounded down"
abbrev pub rounded : Rounding → ℕ → ℕ → ℕ
rounded Up a b = ceil_div a b
rounded Down a b = a / b

-- "100 times its exact value"
unfoldable pub hundredths_of : Rounding → Float → ℕ
hundredths_of rounding x = rounded rounding (100 * numerator x) (denominator x)

-- "infinite"
abbrev pub infinite : Float → Bool
infinite nan = false
infinite (inf s) = true
infinite (fin s m e) = false

-- it has a minus
abbrev pub negative : Float → Bool
negative nan = false
negative (inf s) = s
negative (fin s m e) = s

-- "below zero"; "Minus zero is zero."
abbrev pub below_zero : Float → Bool
below_zero x = negative x && ltb 0 (numerator x)

-- "above" a limit
abbrev pub above_limit : ℕ → Float → Bool
above_limit limit x = ltb (limit * denominator x) (numerator x)

-- No. 8: "a present reading is NaN, infinite, below zero," or above its limit
unfoldable pub is_bad : ℕ → Float → Bool
is_bad limit x = is_nan x || infinite x || below_zero x || above_limit limit x

-- "speed above 100 or pressure above 160"
abbrev pub most_speed : ℕ
most_speed = 100

abbrev pub most_psi : ℕ
most_psi = 160

abbrev pub judged : Bool → ℕ → Reading
judged true n = Refused
judged false n = Hundredths n

-- "Speed becomes 100 times its exact value rounded up"
unfoldable pub speed_of : Float → Reading
speed_of x = judged (is_bad most_speed x) (hundredths_of Up x)

-- "pressure 100 times its exact value rounded down"
unfoldable pub pressure_of : Float → Reading
pressure_of x = judged (is_bad most_psi x) (hundredths_of Down x)

-- the paper's number and values of a reading: 0 and its hundredths, or the 8 that it is refused with
abbrev pub reading_told : Reading → ℕ × List ℕ
reading_told (Hundredths n) = (0, n ∷ [])
reading_told Refused = (8, [])
