-- Laws of division up: it is the least whole number of which b times is not below a, and it depends on the fraction alone.
-- Assumes nothing.
use mathlib.Core.Logic.{◌↔◌}
use Prim.Native.Nat.{ℕ, suc, ◌+◌, ◌-◌, ◌*◌, ◌≤◌, ◌<◌, suc-le-suc}
use native.Mathlib.Nat.{div-lt_iff_lt-mul, le_refl, le_of_suc-le-suc, mul-le-mul_right, le_of_mul-le-mul_right}
use native.Mathlib.Omega.{arith}
use Rattle.whole.specs.Ceiling.{ceil_div}

pub ceil_le_iff : (a b n : ℕ) → 0 < b → (ceil_div a b ≤ n) ↔ (a ≤ n * b)
unfolding ceil_div
ceil_le_iff a b n h =
    let i = div-lt_iff_lt-mul {k = b} {x = a + (b - 1)} {y = suc n} h in
    (λ l. omega (arith, i.0 (suc-le-suc l)), λ l. le_of_suc-le-suc (i.1 (omega arith)))

pub ceil_ge : (a b : ℕ) → 0 < b → a ≤ ceil_div a b * b
ceil_ge a b h = (ceil_le_iff a b (ceil_div a b) h).0 (le_refl (ceil_div a b))

pub ceil_least : (a b n : ℕ) → 0 < b → a ≤ n * b → ceil_div a b ≤ n
ceil_least a b n h = (ceil_le_iff a b n h).1

-- a / b is at most c / d
pub ceil_mono : (a b c d : ℕ) → 0 < b → 0 < d → a * d ≤ c * b → ceil_div a b ≤ ceil_div c d
ceil_mono a b c d h k l =
    let n = ceil_div c d in
    ceil_least a b n h (le_of_mul-le-mul_right {m = a} {n = n * b} {k = d} (omega (arith, mul-le-mul_right b (ceil_ge c d k))) k)
