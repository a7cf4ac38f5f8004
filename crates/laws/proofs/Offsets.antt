-- The offset grows with the consist's and with the train's speed. Assumes nothing.
use mathlib.Core.Path.{◌≡◌}
use Prim.Native.Nat.{ℕ, zero, suc, ◌+◌, ◌*◌, ◌-◌, ◌≤◌, ◌<◌}
use native.Mathlib.Decide.{dec_le}
use native.Mathlib.Nat.{mul-pos, mul-le-mul, mul-le-mul_right, le_of_mul-le-mul_right}
use native.Mathlib.Omega.{arith}
use Rattle.judge.specs.Judge.{offset_for}
use Rattle.judge.proofs.Offsets.{offset_enough, offset_least, offset_none}

-- the share of x that is above u grows with x, here as one fraction's numerator times the other's denominator
share_above : (o o' a a' u : ℕ) → o ≤ o' → a ≤ a' → o * a * (u + a') ≤ o' * a' * (u + a)
share_above o o' a a' u h k =
    let m : a * (u + a') ≤ a' * (u + a) = omega (arith, mul-le-mul_right u k) in
    omega (arith, mul-le-mul h m)

share : (o o' x x' u : ℕ) → o ≤ o' → x ≤ x' → o * (x - u) * x' ≤ o' * (x' - u) * x
share o o' x x' u h k = go (dec_le x u)
  where
    go : Dec (x ≤ u) → o * (x - u) * x' ≤ o' * (x' - u) * x
    go (yes l) = let z : x - u ≡ 0 = omega arith in rw z (omega arith)
    go (no f) =
        let e : u + (x - u) ≡ x = omega arith in
        let e' : u + (x' - u) ≡ x' = omega arith in
        rw (e, e') at (share_above o o' (x - u) (x' - u) u h (omega arith))

pub offset_grows : (o o' v v' u : ℕ) → o ≤ o' → v ≤ v' → offset_for o v u ≤ offset_for o' v' u
offset_grows o o' zero v' u h k = omega (arith, offset_none o 0 u (omega arith))
offset_grows o o' (suc v) v' u h k =
    let x : ℕ = suc v * suc v in
    let x' : ℕ = v' * v' in
    let n : ℕ = offset_for o' v' u in
    let some : 0 < v' = omega arith in
    let l : o * (x - u * u) * x' ≤ n * x * x' =
    omega (arith, share o o' x x' (u * u) h (mul-le-mul k k), mul-le-mul_right x (offset_enough o' v' u some)) in
    offset_least o (suc v) u (omega arith) n (le_of_mul-le-mul_right {m = o * (x - u * u)} {n = n * x} {k = x'} l (mul-pos some some))
