-- A result is inside the consist's range, whatever the sums. Assumes nothing.
use mathlib.Core.Path.{sym, ap}
use mathlib.Core.Bool.{Bool, true, false, cond}
use Prim.Native.Nat.{ℕ, ◌≤◌}
use native.Mathlib.Omega.{arith}
use lib.IntN.{ℤ, pos}
use lib.Signed.{lt_z}
use Rattle.trend.specs.Result.{Learnt, Nothing, Time, dividend, divisor, time_of, result_of}
use Rattle.trend.specs.Falling.{ResultInRange}

time_in_range : (init : ℕ) (x y : ℤ) → (1000 ≤ time_of init x y) × (time_of init x y ≤ 240000)
unfolding time_of
time_in_range init x y = omega arith

abbrev ms_of : Learnt → ℕ
ms_of Nothing = 1000
ms_of (Time ms) = ms

pub result_in_range : ResultInRange
unfolding ResultInRange result_of
result_in_range init equ p ms s e = rw (ap ms_of (sym e)) (within (lt_z (pos 0) (divisor equ p s)))
  where
    within : (t : Bool) → let r = ms_of (cond t (Time (time_of init (dividend equ s) (divisor equ p s))) Nothing) in (1000 ≤ r) × (r ≤ 240000)
    within true = time_in_range init (dividend equ s) (divisor equ p s)
    within false = omega arith
