-- How large each number of a line of small sums can be. Assumes nothing.
use mathlib.Core.Path.{◌≡◌, refl}
use mathlib.Core.Bool.{Bool, true, false, cond}
use Prim.Native.Nat.{ℕ, suc, ◌*◌, ◌≤◌}
use native.Mathlib.Nat.{mul-le-mul}
use native.Mathlib.Omega.{arith}
use lib.Dec.{leb}
use lib.IntN.{ℤ, pos, negsuc, nat_abs, neg_ℤ, ◌-ℤ◌, ◌*ℤ◌}
use Rattle.whole.proofs.Parts.{sub_parts}
use Rattle.whole.proofs.Size.{abs_most, abs_neg, abs_sub, abs_times}
use Rattle.trend.specs.declared.Sums.{Sums}
use Rattle.trend.specs.Sound.{Small, Room}
use Rattle.trend.specs.Line.{slope_top, intercept_top, bottom}
use Rattle.trend.specs.Result.{dividend, divisor}

-- a product, of numbers no further from zero than m and n
abs_product : (a b : ℤ) → nat_abs (a *ℤ b) ≡ nat_abs a * nat_abs b
abs_product (pos a) b = abs_times a b
abs_product (negsuc a) (pos b) = abs_neg (pos (suc a * b))
abs_product (negsuc a) (negsuc b) = refl

pub product_most : {m n : ℕ} (a b : ℤ) → nat_abs a ≤ m → nat_abs b ≤ n → nat_abs (a *ℤ b) ≤ m * n
product_most a b h k = rw (abs_product a b) (mul-le-mul h k)

-- two natural numbers, neither above m, are no more than m apart
pub apart_most : {m a b c d : ℕ} → Room m a b c d → nat_abs (pos (a * b) -ℤ pos (c * d)) ≤ m
apart_most {m} {a} {b} {c} {d} r =
    let e = sub_parts (pos (a * b)) (pos (c * d)) in
    abs_most (pos (a * b) -ℤ pos (c * d)) m (omega arith) (omega arith)

module _ {s : Sums} (h : Small s) where
  pub slope_room : Room 672000000000 s.count s.products s.times s.pressures
  slope_room = omega (arith, mul-le-mul h.count h.products, mul-le-mul h.times h.pressures)

  pub intercept_room : Room 400000000000000 s.squares s.pressures s.times s.products
  intercept_room = omega (arith, mul-le-mul h.squares h.pressures, mul-le-mul h.times h.products)

  pub bottom_room : Room 25600000000 s.count s.squares s.times s.times
  bottom_room = omega (arith, mul-le-mul h.count h.squares, mul-le-mul h.times h.times)

  pub slope_most : nat_abs (slope_top s) ≤ 672000000000
  unfolding slope_top
  slope_most = apart_most slope_room

  pub intercept_most : nat_abs (intercept_top s) ≤ 400000000000000
  unfolding intercept_top
  intercept_most = apart_most intercept_room

  pub bottom_most : nat_abs (bottom s) ≤ 25600000000
  unfolding bottom
  bottom_most = apart_most bottom_room

  pub dividend_most : {k : ℕ} → k ≤ 65535 → nat_abs (dividend k s) ≤ 2200000000000000
  unfolding dividend
  dividend_most {k} word =
      omega (arith, abs_sub (intercept_top s) (pos k *ℤ bottom s), intercept_most, abs_times k (bottom s), mul-le-mul word bottom_most)

  pub steeper_most : nat_abs (pos 933 *ℤ bottom s -ℤ pos 110 *ℤ slope_top s) ≤ 100000000000000
  steeper_most =
      omega (
        arith,
        abs_sub (pos 933 *ℤ bottom s) (pos 110 *ℤ slope_top s),
        abs_times 933 (bottom s),
        abs_times 110 (slope_top s),
        bottom_most,
        slope_most,
      )

  pub level_most : nat_abs (neg_ℤ (pos 100 *ℤ slope_top s)) ≤ 100000000000000
  level_most = omega (arith, abs_neg (pos 100 *ℤ slope_top s), abs_times 100 (slope_top s), slope_most)

  pub divisor_most : (equ p : ℕ) → nat_abs (divisor equ p s) ≤ 100000000000000
  unfolding divisor
  divisor_most equ p = either (leb equ p)
    where
      either : (t : Bool) → nat_abs (cond t (pos 933 *ℤ bottom s -ℤ pos 110 *ℤ slope_top s) (neg_ℤ (pos 100 *ℤ slope_top s))) ≤ 100000000000000
      either true = steeper_most
      either false = level_most
