-- Laws of the offset: it is the least that is enough, 0 where the train is no faster, and never above the consist's. Assumes nothing.
use mathlib.Core.Path.{◌≡◌}
use Prim.Native.Nat.{ℕ, zero, suc, ◌+◌, ◌*◌, ◌-◌, ◌≤◌, ◌<◌}
use native.Mathlib.Nat.{div-zero, mul-pos, mul-le-mul, mul-le-mul_left}
use native.Mathlib.Omega.{arith}
use Rattle.whole.specs.Ceiling.{ceil_div}
use Rattle.whole.proofs.Ceilings.{ceil_ge, ceil_least}
use Rattle.judge.specs.Judge.{offset_for}

module _ (o v u : ℕ) (some : 0 < v) where
  pub offset_enough : o * (v * v - u * u) ≤ offset_for o v u * (v * v)
  unfolding offset_for
  offset_enough = ceil_ge (o * (v * v - u * u)) (v * v) (mul-pos some some)

  pub offset_least : (n : ℕ) → o * (v * v - u * u) ≤ n * (v * v) → offset_for o v u ≤ n
  unfolding offset_for
  offset_least n = ceil_least (o * (v * v - u * u)) (v * v) n (mul-pos some some)

pub offset_none : (o v u : ℕ) → v ≤ u → offset_for o v u ≡ 0
unfolding offset_for ceil_div
offset_none o zero u h = div-zero (o * (0 * 0 - u * u) + (0 * 0 - 1))
offset_none o (suc v) u h =
    let z : suc v * suc v - u * u ≡ 0 = omega (arith, mul-le-mul h h) in
    omega (arith, offset_least o (suc v) u (omega arith) 0 (rw z (omega arith)))

pub offset_most : (o v u : ℕ) → offset_for o v u ≤ o
offset_most o zero u = omega (arith, offset_none o 0 u (omega arith))
offset_most o (suc v) u = offset_least o (suc v) u (omega arith) o (mul-le-mul_left o (omega arith))
