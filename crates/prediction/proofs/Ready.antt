-- What is known of an admitted sample, and that its walks can be made. Assumes nothing.
use mathlib.Core.Path.{◌≡◌}
use mathlib.Core.List.{List}
use Prim.Native.Nat.{ℕ, ◌≤◌}
use native.Mathlib.Omega.{arith}
use Rattle.refusal.specs.Verdict.{Accepted}
use Rattle.record.specs.Location.{farthest}
use Rattle.consist.specs.declared.Consist.{Consist}
use Rattle.consist.specs.Sound as consist
use Rattle.profile.specs.Profile as profile
use Rattle.sample.specs.declared.Sample.{Sample}
use Rattle.sample.specs.Bounds.{Bounded}
use Rattle.brake.specs.declared.Brake.{Brake}
use Rattle.brake.specs.Sound as brake
use Rattle.air.proofs.Emergency.{emergency_within}
use Rattle.track.specs.Track.{lay_of}
use Rattle.track.proofs.Accepted.{lay_gentle}
use Rattle.step.specs.Curve.{penalty_curve}
use Rattle.walk.specs.Range.{Walkable}
use Rattle.step.specs.declared.Curve.{Curve}
use Rattle.step.specs.Range.{Braking}
use Rattle.step.proofs.Bounds.{penalty_braking, emergency_braking}
use Rattle.prediction.specs.Steps.{emergency_curve_of, Ready}

module _ (c : Consist) (k : Brake) (m : Sample) (p : List ℕ) where
  -- over an accepted profile
  pub ready : consist.Sound c → brake.Sound c k → Bounded m → profile.judge_profile p ≡ (Accepted, profile.count p) → m.head ≤ farthest → Ready c k m p
  ready sound_consist sound_brake bounded judged head = record {
    consist = sound_consist;
    brake = sound_brake;
    sample = bounded;
    track = lay_gentle p (profile.count p) judged;
    head = head;
  }

  -- under a curve that brakes
  under : (curve : Curve) → Braking curve → Ready c k m p → Walkable c curve (lay_of p) m.head m.speed
  under curve braking h = record {
    limited = record { lightest = omega arith; heaviest = omega arith; axles = omega arith };
    rated = omega arith;
    blocks = h.consist.blocks;
    curve = braking;
    track = h.track;
    head = h.head;
    speed = h.sample.speed;
  }

  pub walkable : Ready c k m p → Walkable c (penalty_curve c k.a k.b) (lay_of p) m.head m.speed
  walkable h = under _ (penalty_braking c k.a k.b (omega arith) (omega arith) (omega arith) (omega arith)) h

  pub emergency_walkable : Ready c k m p → Walkable c (emergency_curve_of c k) (lay_of p) m.head m.speed
  emergency_walkable h =
      let within = emergency_within c k h.brake in
      under _ (emergency_braking _ _ _ (omega (arith, within.0)) (omega (arith, within.1))) h
