-- How large each number of a step can be. Assumes nothing.
use Prim.Native.Nat.{ℕ, ◌+◌, ◌*◌, ◌^◌, ◌≤◌, ◌<◌}
use native.Mathlib.Nat.{mul-le-mul, div-lt_iff_lt-mul, le_of_suc-le-suc}
use native.Mathlib.Omega.{arith}
use lib.IntN.{ℤ, pos, nat_abs, ◌+ℤ◌, ◌*ℤ◌}
use Rattle.whole.specs.Root.{root_of}
use Rattle.whole.proofs.Roots.{root_is, sq_le}
use Rattle.whole.proofs.Size.{abs_add, abs_times}
use Rattle.consist.specs.declared.Consist.{Consist}
use Rattle.track.specs.declared.Under.{Under}
use Rattle.step.specs.declared.Curve.{Curve}
use Rattle.step.specs.Curve.{drop_at, cylinder_at, force_at, penalty_curve, emergency_curve}
use Rattle.step.specs.Step.{opposing, step_time}
use Rattle.step.specs.Range.{Braking, Opposed, square_most, root_most, time_most}

-- ---- the brake force

drop_most : (k : Curve) (t : ℕ) → drop_at k t ≤ k.most
unfolding drop_at
drop_most k t = omega arith

pub gain_most : (k : Curve) (t : ℕ) → Braking k → k.gain * drop_at k t ≤ 132000
gain_most k t b = let d : drop_at k t ≤ 11000 = omega (arith, drop_most k t) in mul-le-mul b.gain d

pub cylinder_most : (k : Curve) (t : ℕ) → Braking k → cylinder_at k t ≤ 136000
unfolding cylinder_at
cylinder_most k t b = omega (arith, gain_most k t b)

pub force_most : (rated : ℕ) (k : Curve) (t : ℕ) → rated ≤ 10000000 → Braking k → force_at rated k t ≤ 212500000
unfolding force_at
force_most rated k t h b = omega (arith, mul-le-mul h (cylinder_most k t b))

-- the penalty's curve, under pressures that a session holds
pub penalty_braking : (c : Consist) (a b : ℕ) → 0 < c.application → c.set ≤ 11000 → a ≤ 11000 → b ≤ 70000 → Braking (penalty_curve c a b)
unfolding penalty_curve
penalty_braking c a b t s ha hb = omega arith

-- the emergency's
pub emergency_braking : (a b equalization : ℕ) → a ≤ 11000 → b ≤ 70000 → Braking (emergency_curve a b equalization)
unfolding emergency_curve
emergency_braking a b equalization ha hb = omega arith

-- ---- the root and the time of a step

pub root_most_lem : (q : ℕ) → q ≤ square_most → root_of q ≤ root_most
root_most_lem q h = sq_le (root_of q) root_most (omega (arith, (root_is q).low))

pub time_most_lem : (s : ℕ) → 0 < s → step_time s ≤ time_most
unfolding step_time
time_most_lem s h = le_of_suc-le-suc ((div-lt_iff_lt-mul {k = 11 * s} {x = 12000000} {y = time_most + 1} (omega arith)).1 (omega arith))

-- ---- the opposing force

-- what it reads of a consist are words of 16 bits
pub record Words (c : Consist) : Type 0 where
  pub cars : c.cars < 2 ^ 16
  pub axles : c.axles < 2 ^ 16
  pub weight : c.weight < 2 ^ 16

-- its terms: those that never pull, the grade's, the curvature's
abbrev pub drag : Consist → ℕ → ℕ → ℕ → ℕ
drag c f s q = 1000000 * f + 600000 * c.weight + 20000000 * c.axles + 100 * (c.weight * s) + 7 * (c.cars * q)

abbrev pub pull : Consist → Under → ℤ
pull c u = pos (2000 * c.weight) *ℤ u.grade

abbrev pub bend : Consist → Under → ℕ
bend c u = 8000 * (c.weight * u.curvature)

module _ {c : Consist} {f s q : ℕ} {u : Under} (w : Words c) (h : Opposed f s q u) where
  tons : c.weight ≤ 65535
  tons = omega arith

  cars : c.cars ≤ 65535
  cars = omega arith

  pub drag_most : drag c f s q ≤ 680000000000000
  drag_most = omega (arith, mul-le-mul tons h.root, mul-le-mul cars h.squared)

  pub pull_most : nat_abs (pull c u) ≤ 17000000000000
  pull_most = omega (arith, abs_times (2000 * c.weight) u.grade, mul-le-mul tons h.grade)

  pub bend_most : bend c u ≤ 270000000000000
  bend_most = omega (arith, mul-le-mul tons h.curvature)

  pub sum_most : nat_abs (pos (drag c f s q) +ℤ pull c u) ≤ 697000000000000
  sum_most = omega (arith, abs_add (pos (drag c f s q)) (pull c u), drag_most, pull_most)

  pub opposing_most : nat_abs (opposing c f s q u.grade u.curvature) ≤ 967000000000000
  unfolding opposing
  opposing_most = omega (arith, abs_add (pos (drag c f s q) +ℤ pull c u) (pos (bend c u)), sum_most, bend_most)

  pub scaled_most : nat_abs (pos 1449 *ℤ opposing c f s q u.grade u.curvature) ≤ 2 ^ 62
  scaled_most = omega (arith, abs_times 1449 (opposing c f s q u.grade u.curvature), opposing_most)
