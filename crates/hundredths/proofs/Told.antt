-- What is told of a reading tells the reading. Assumes nothing.
use mathlib.Core.Path.{◌≡◌, refl, ap}
use mathlib.Core.List.{List}
use Prim.Native.Nat.{ℕ}
use lib.ListN.{get_or}
use native.Mathlib.Omega.{arith}
use Rattle.hundredths.specs.Reading.{Reading, Hundredths, Refused, reading_told}

-- no two readings are told alike
pub reading_one : (x y : Reading) → reading_told x ≡ reading_told y → x ≡ y
reading_one (Hundredths n) (Hundredths m) h = ap (λ (z : ℕ × List ℕ). Hundredths (get_or z.1 0 0)) h
reading_one (Hundredths n) Refused h = absurd (let n : ◌≡◌ {A = ℕ} 0 8 = ap (λ (z : ℕ × List ℕ). z.0) h in omega arith)
reading_one Refused (Hundredths n) h = absurd (let n : ◌≡◌ {A = ℕ} 8 0 = ap (λ (z : ℕ × List ℕ). z.0) h in omega arith)
reading_one Refused Refused h = refl
