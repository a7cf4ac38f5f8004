-- The brake force of a curve does not fall as the clock runs; and of two consists, the one whose rated force is no higher and, by the penalty's curve,
-- whose application time is no shorter has nowhere the greater force. Assumes nothing.
use mathlib.Core.Path.{◌≡◌}
use Prim.Native.Nat.{ℕ, zero, suc, ◌*◌, ◌/◌, ◌≤◌, ◌<◌}
use native.Mathlib.Nat.{le_refl, le-div_iff_mul-le, div-mul-le_self, div-zero, mul-le-mul, mul-le-mul_left}
use native.Mathlib.Omega.{arith}
use Rattle.consist.specs.declared.Consist.{Consist}
use Rattle.step.specs.declared.Curve.{Curve}
use Rattle.step.specs.Curve.{drop_at, cylinder_at, force_at, penalty_curve, emergency_curve}
use Rattle.laws.specs.Compare.{Weaker}

-- a quotient grows with its number and falls with its divisor
pub div-le : (x y k j : ℕ) → x ≤ y → 0 < j → j ≤ k → x / k ≤ y / j
div-le x y k j h some l = (le-div_iff_mul-le some).1 (omega (arith, mul-le-mul_left (x / k) l, div-mul-le_self x k))

div_grows : (x y k : ℕ) → x ≤ y → x / k ≤ y / k
div_grows x y zero h = omega (arith, div-zero x)
div_grows x y (suc k) h = div-le x y (suc k) (suc k) h (omega arith) (le_refl _)

-- the force grows with the rated force and with each part of the cylinder pressure
force_le : (p r : ℕ) (k j : Curve) (s t : ℕ) → p ≤ r → k.base ≤ j.base → k.gain ≤ j.gain → drop_at k s ≤ drop_at j t →
    force_at p k s ≤ force_at r j t
unfolding force_at cylinder_at
force_le p r k j s t rated base gain drop =
    let g = mul-le-mul gain drop in
    let h : cylinder_at k s ≤ cylinder_at j t = omega arith in
    div_grows (p * cylinder_at k s) (r * cylinder_at j t) 6400 (mul-le-mul rated h)

-- as the clock runs
drop_grows : (k : Curve) (s t : ℕ) → s ≤ t → drop_at k s ≤ drop_at k t
unfolding drop_at
drop_grows k s t h = omega (arith, div_grows (k.slope * s) (k.slope * t) k.per (mul-le-mul_left k.slope h))

pub force_grows : (rated : ℕ) (k : Curve) (s t : ℕ) → s ≤ t → force_at rated k s ≤ force_at rated k t
force_grows rated k s t h = force_le rated rated k k s t (le_refl _) (le_refl _) (le_refl _) (drop_grows k s t h)

module _ (c d : Consist) (a b : ℕ) (some : 0 < d.application) (set : c.set ≡ d.set) where
  drop_below : d.application ≤ c.application → (t : ℕ) → drop_at (penalty_curve c a b) t ≤ drop_at (penalty_curve d a b) t
  unfolding drop_at penalty_curve
  drop_below h t =
      let n : ℕ = 2 * d.set * t in
      let l : 2 * c.set * t / (7 * c.application) ≤ n / (7 * d.application) =
      rw set (div-le n n (7 * c.application) (7 * d.application) (le_refl n) (omega arith) (omega arith)) in
      omega arith

  -- rated brake force no higher, application time no shorter, with the same set pressure, A and B
  pub penalty_weaker : c.rated ≤ d.rated → d.application ≤ c.application →
      Weaker (force_at c.rated (penalty_curve c a b)) (force_at d.rated (penalty_curve d a b))
  unfolding penalty_curve
  penalty_weaker rated application =
      record {
        first_grows = force_grows c.rated (penalty_curve c a b);
        second_grows = force_grows d.rated (penalty_curve d a b);
        below =
            λ t.
            force_le c.rated d.rated (penalty_curve c a b) (penalty_curve d a b) t t rated (le_refl b) (le_refl 5)
            (drop_below application t);
      }

-- emergency air: rated brake force no higher, with the same A, B and equalization
pub emergency_weaker : (p r a b equalization : ℕ) → p ≤ r →
    Weaker (force_at p (emergency_curve a b equalization)) (force_at r (emergency_curve a b equalization))
emergency_weaker p r a b equalization rated =
    let k = emergency_curve a b equalization in
    record {
      first_grows = force_grows p k;
      second_grows = force_grows r k;
      below = λ t. force_le p r k k t t rated (le_refl _) (le_refl _) (le_refl _);
    }
