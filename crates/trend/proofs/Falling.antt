-- Of points that fall M is below 0 and Z above it, so that Y is above 0: each point is later and lower than all before it. Assumes nothing.
use mathlib.Core.Path.{◌≡◌, subst}
use mathlib.Core.Bool.{Bool, true, false, cond}
use mathlib.Core.List.{List, [], ◌∷◌}
use Prim.Native.Nat.{ℕ, suc, ◌+◌, ◌*◌, ◌-◌, ◌≤◌, ◌<◌}
use native.Mathlib.Omega.{arith}
use lib.Dec.{leb}
use lib.IntN.{pos, neg_ℤ, ◌-ℤ◌, ◌*ℤ◌}
use lib.ListN.{length}
use Rattle.whole.proofs.Parts.{Below, sub_parts, times_up, times_dn, neg_up, neg_dn}
use Rattle.whole.proofs.Order.{parts_lt}
use Rattle.trend.specs.declared.Sums.{Sums}
use Rattle.trend.specs.Points.{Point, sums_of, with_point}
use Rattle.trend.specs.Line.{slope_top, bottom}
use Rattle.trend.specs.Result.{divisor}
use Rattle.trend.specs.Falling.{Falls, FallingPoints}

-- (b - a) × (d - c) is above 0
cross : (a b c d : ℕ) → a < b → c < d → a * d + b * c < a * c + b * d
cross a b c d h k =
    subst (λ (n : ℕ). a * d + n * c < a * c + n * d) {x = a + 1 + (b - suc a)} (omega arith)
    (subst (λ (m : ℕ). let n = a + 1 + (b - suc a) in a * m + n * c < a * c + n * m) {x = c + 1 + (d - suc c)} (omega arith)
    (omega arith))

-- over the sums s, a point that is later and lower than each of theirs
record Under (t p : ℕ) (s : Sums) : Type 0 where
  lower : s.count * (t * p) + s.products < t * s.pressures + s.times * p
  later : t * s.times + s.times * t < s.count * (t * t) + s.squares

-- M is not above 0, and Z is not below it
record Level (s : Sums) : Type 0 where
  slope : s.count * s.products ≤ s.times * s.pressures
  spread : s.times * s.times ≤ s.count * s.squares

record Steep (s : Sums) : Type 0 where
  slope : s.count * s.products < s.times * s.pressures
  spread : s.times * s.times < s.count * s.squares

-- `with_point` keeps the sums of the points
pub sums_with : (x : Point) (xs : List Point) → sums_of (x ∷ xs) ≡ with_point (sums_of xs) x.t x.p
unfolding sums_of
sums_with x xs = let e : suc (length xs) ≡ length xs + 1 = omega arith in rw e

one_more : (t p : ℕ) (s : Sums) → Level s → Under t p s → Steep (with_point s t p)
one_more t p s l u = omega arith

under : (t p : ℕ) (y : Point) (ys : List Point) → y.t < t → p < y.p → Falls (y ∷ ys) → Under t p (sums_of (y ∷ ys))
unfolding sums_of Falls
under t p y [] h k f = omega (arith, cross y.t t p y.p h k, cross y.t t y.t t h h)
under t p y (z ∷ zs) h k f =
    omega (
      arith,
      cross y.t t p y.p h k,
      cross y.t t y.t t h h,
      under t p z zs (omega (arith, f.0)) (omega (arith, f.1)) f.2,
    )

next : (x y : Point) (ys : List Point) → Falls (x ∷ y ∷ ys) → Level (sums_of (y ∷ ys)) → Steep (sums_of (x ∷ y ∷ ys))
unfolding Falls
next x y ys f l = rw (sums_with x (y ∷ ys)) (one_more x.t x.p (sums_of (y ∷ ys)) l (under x.t x.p y ys (omega (arith, f.0)) (omega (arith, f.1)) f.2))

level : (x : Point) (ys : List Point) → Falls (x ∷ ys) → Level (sums_of (x ∷ ys))
unfolding sums_of Falls
level x [] f = omega arith
level x (y ∷ ys) f = omega (arith, next x y ys f (level y ys f.2))

steep : (x y : Point) (ys : List Point) → Falls (x ∷ y ∷ ys) → Steep (sums_of (x ∷ y ∷ ys))
unfolding Falls
steep x y ys f = next x y ys f (level y ys f.2)

module _ (s : Sums) (h : Steep s) where
  slope_below : Below (slope_top s) (pos 0)
  unfolding slope_top
  slope_below = omega (arith, h.slope, sub_parts (pos (s.count * s.products)) (pos (s.times * s.pressures)))

  bottom_above : Below (pos 0) (bottom s)
  unfolding bottom
  bottom_above = omega (arith, h.spread, sub_parts (pos (s.count * s.squares)) (pos (s.times * s.times)))

  above : (t : Bool) → Below (pos 0) (cond t (pos 933 *ℤ bottom s -ℤ pos 110 *ℤ slope_top s) (neg_ℤ (pos 100 *ℤ slope_top s)))
  above true =
      omega (
        arith,
        slope_below,
        bottom_above,
        sub_parts (pos 933 *ℤ bottom s) (pos 110 *ℤ slope_top s),
        times_up 933 (bottom s),
        times_dn 933 (bottom s),
        times_up 110 (slope_top s),
        times_dn 110 (slope_top s),
      )
  above false =
      omega (
        arith,
        slope_below,
        neg_up (pos 100 *ℤ slope_top s),
        neg_dn (pos 100 *ℤ slope_top s),
        times_up 100 (slope_top s),
        times_dn 100 (slope_top s),
      )

pub falling_points : FallingPoints
unfolding FallingPoints divisor
falling_points equ p x y ys f =
    let s = sums_of (x ∷ y ∷ ys) in
    parts_lt (pos 0) (divisor equ p s) (above s (steep x y ys f) (leb equ p))
