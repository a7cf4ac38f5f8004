-- A weight that is multiplied in before one division down and divided out after it leaves the quotient as it was. Assumes nothing.
use mathlib.Core.Path.{◌≡◌, sym, ap}
use Prim.Native.Nat.{ℕ, zero, suc, ◌+◌, ◌*◌, ◌/◌, ◌<◌}
use native.Mathlib.Nat.{mul-le-mul_left, lt_of_mul-lt-mul_left, le_of_suc-le-suc}
use native.Mathlib.Omega.{arith}
use lib.IntN.{ℤ, pos, ◌*ℤ◌}
use Rattle.whole.specs.Floor.{floor_div}
use Rattle.whole.proofs.Parts.{up, dn, times_up, times_dn}
use Rattle.whole.proofs.Floors.{Low, High, floor_low, floor_high, floor_parts}

module _ (x : ℤ) (w l : ℕ) (some : 0 < w) (long : 0 < l) where
  -- the quotient, and that of w times as much
  abbrev f : ℤ
  f = floor_div x (pos l)

  abbrev y : ℤ
  y = floor_div (pos w *ℤ x) (pos l)

  low : Low y w f
  low =
      le_of_suc-le-suc
      (lt_of_mul-lt-mul_left l {m = w * up f + dn y} {n = suc (up y + w * dn f)}
      (omega (arith, mul-le-mul_left w (floor_low x l long), floor_high (pos w *ℤ x) l long, times_up w x, times_dn w x)))

  high : High y w f
  high =
      lt_of_mul-lt-mul_left l {m = up y + w * dn f} {n = w * up f + w + dn y}
      (omega (arith, mul-le-mul_left w (floor_high x l long), floor_low (pos w *ℤ x) l long, times_up w x, times_dn w x, some))

  pub floor_twice : floor_div y (pos w) ≡ f
  floor_twice = sym (floor_parts y w f some low high)

pub div_twice : (n w l : ℕ) → 0 < w → 0 < l → w * n / l / w ≡ n / l
unfolding floor_div
div_twice n zero l h k = absurd (omega arith)
div_twice n (suc w) zero h k = absurd (omega arith)
div_twice n (suc w) (suc l) h k = ap up (floor_twice (pos n) (suc w) (suc l) h k)
