-- A fraction rounded is the same number however it is written, and grows with the fraction. Assumes nothing.
use mathlib.Core.Path.{◌≡◌, sym}
use Prim.Native.Nat.{ℕ, ◌*◌, ◌≤◌, ◌<◌}
use native.Mathlib.Nat.{le_of_eq, le_antisymm}
use lib.Ieee.Nearest.{div_mono}
use Rattle.whole.proofs.Ceilings.{ceil_mono}
use Rattle.hundredths.specs.declared.Rounding.{Rounding}
use Rattle.hundredths.specs.declared.Rounding.TheVariants.{Up, Down}
use Rattle.hundredths.specs.Reading.{rounded}

pub rounded_mono : (r : Rounding) (a b c d : ℕ) → 0 < b → 0 < d → a * d ≤ c * b → rounded r a b ≤ rounded r c d
rounded_mono Down = div_mono
rounded_mono Up = ceil_mono

pub rounded_same : (r : Rounding) (a b c d : ℕ) → 0 < b → 0 < d → a * d ≡ c * b → rounded r a b ≡ rounded r c d
rounded_same r a b c d B D e = le_antisymm (rounded_mono r a b c d B D (le_of_eq e)) (rounded_mono r c d a b D B (le_of_eq (sym e)))
