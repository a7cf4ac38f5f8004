-- What the steps of a prediction find and ask. Definitions only.
use Rattle.std.specs.Prelude.{List, ℕ, ◌≤◌}
use Rattle.record.specs.Location.{farthest}
use Rattle.consist.specs.declared.Consist.{Consist}
use Rattle.consist.specs.Sound as consist
use Rattle.targets.specs.Targets as targets
use Rattle.sample.specs.declared.Sample.{Sample}
use Rattle.sample.specs.Bounds.{Bounded}
use Rattle.brake.specs.declared.Brake.{Brake}
use Rattle.brake.specs.Sound as brake
use Rattle.air.specs.Emergency.{emergency_air}
use Rattle.track.specs.Track.{lay_of}
use Rattle.track.specs.Gentle.{Gentle}
use Rattle.step.specs.declared.Curve.{Curve}
use Rattle.step.specs.Curve.{emergency_curve}
use Rattle.judge.specs.declared.Listed.{Listed}

-- the targets, place by place
abbrev pub listed_of : List ℕ → Listed
listed_of t = record { count = targets.count t; locations = targets.locations_in t targets.most; speeds = targets.speeds_in t targets.most }

-- the curve of emergency air
abbrev pub emergency_curve_of : Consist → Brake → Curve
emergency_curve_of c k = let air = emergency_air c k in emergency_curve air.a air.b air.equalization

-- what is known of an admitted sample, before the update and after it
pub record Ready (c : Consist) (k : Brake) (m : Sample) (p : List ℕ) : Type 0 where
  pub consist : consist.Sound c
  pub brake : brake.Sound c k
  pub sample : Bounded m
  pub track : Gentle (lay_of p)
  pub head : m.head ≤ farthest
