-- The brake curve: what makes the brake force as the walk's clock runs. Definitions only.
use Rattle.std.specs.Prelude.{ℕ, ◌+◌, ◌-◌, ◌*◌, ◌/◌, min}
use Rattle.consist.specs.declared.Consist.{Consist}
use Rattle.brake.specs.Equalization.{equalization_service}
use Rattle.step.specs.declared.Curve.{Curve}

-- "Drop", down, not more than what the curve has
unfoldable pub drop_at : Curve → ℕ → ℕ
drop_at k t = min (k.slope * t / k.per) k.most

-- "Cylinder p", down: the gain is in halves
unfoldable pub cylinder_at : Curve → ℕ → ℕ
cylinder_at k t = k.base + k.gain * drop_at k t / 2

-- "Brake force F = rated × p / 6,400, down."
unfoldable pub force_at : ℕ → Curve → ℕ → ℕ
force_at rated k t = rated * cylinder_at k t / 6400

-- "Drop = 2 × set × t / (7 × application time), down, not more than A minus (5A + 2B)/7 (the quotient down), not below 0. Cylinder p = B + 5/2 drop, down."
unfoldable pub penalty_curve : Consist → ℕ → ℕ → Curve
penalty_curve c a b = record {
  base = b;
  gain = 5;
  slope = 2 * c.set;
  per = 7 * c.application;
  most = a - equalization_service a b;
}

-- document 02's R-5: "Drop is (A minus equalization) × t / 10,000, down, not past equalization and not below 0; p is B plus 6 drop."
unfoldable pub emergency_curve : ℕ → ℕ → ℕ → Curve
emergency_curve a b equalization = record {
  base = b;
  gain = 12;
  slope = a - equalization;
  per = 10000;
  most = a - equalization;
}
