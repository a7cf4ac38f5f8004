-- The emergency's curve at two times, as one statement. Its proof is `figures` of proofs/Figures.antt.
use Rattle.std.specs.Prelude.{◌≡◌}
use Rattle.step.specs.declared.Curve.{Curve}
use Rattle.step.specs.Curve.{cylinder_at, force_at, emergency_curve}

-- a charged train: A 9,000 combined with nominal 9,000, B 0, equalization (5 × 9,000 + 7 × 9,000) / 14
abbrev pub charged : Curve
charged = emergency_curve 9000 0 7714

pub record Figures : Type 0 where
  -- after a step of 16 ft at 10 mph
  pub early : cylinder_at charged 1090 ≡ 840
  -- of a train with 200,000 lb
  pub early_force : force_at 200000 charged 1090 ≡ 26250
  -- A is at equalization
  pub late : cylinder_at charged 10000 ≡ 7716
  pub later : cylinder_at charged 20000 ≡ 7716
  -- equalization is above A: the brakes stay where they are
  pub none : cylinder_at (emergency_curve 7000 2000 7714) 10000 ≡ 2000
