-- 000, 3.12: "a least-squares line", of the points' sums; its slope is M / Z, its intercept B / Z. Definitions only.
use Rattle.std.specs.Prelude.{ℕ, ◌*◌, Bool, ℤ, pos, neg_ℤ, ◌-ℤ◌, ◌*ℤ◌}
use Rattle.std.specs.Int.Signed.{lt_z}
use Rattle.trend.specs.declared.Sums.{Sums}

-- M = N Σtp − Σt Σp
unfoldable pub slope_top : Sums → ℤ
slope_top s = pos (s.count * s.products) -ℤ pos (s.times * s.pressures)

-- B = Σt² Σp − Σt Σtp
unfoldable pub intercept_top : Sums → ℤ
intercept_top s = pos (s.squares * s.pressures) -ℤ pos (s.times * s.products)

-- Z = N Σt² − (Σt)²
unfoldable pub bottom : Sums → ℤ
bottom s = pos (s.count * s.squares) -ℤ pos (s.times * s.times)

-- "If the slope is less than 0.5": twice the last slope, of this fall in so many seconds, is less than the line's, 2 D Z < d (−M).
-- Exactly one half waits.
unfoldable pub levels_off : (fall seconds : ℕ) → Sums → Bool
levels_off fall seconds s = lt_z (pos (2 * fall) *ℤ bottom s) (pos seconds *ℤ neg_ℤ (slope_top s))
