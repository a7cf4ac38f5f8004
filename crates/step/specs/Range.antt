-- The ranges in which every number of a step fits its word. Definitions only.
use Rattle.std.specs.Prelude.{ℕ, ◌+◌, ◌*◌, ◌≤◌, ◌<◌, nat_abs}
use Rattle.record.specs.Location.{farthest}
use Rattle.track.specs.declared.Under.{Under}
use Rattle.step.specs.declared.Curve.{Curve}
use Rattle.step.specs.declared.Load.{Load}
use Rattle.step.specs.declared.Run.{Run}
use Rattle.step.specs.Step.{steps_most}

-- a curve that divides by something, and whose pressures are those of a brake or above them: the bounds leave room for another curve
pub record Braking (k : Curve) : Type 0 where
  pub per : 0 < k.per
  pub slope : k.slope ≤ 22000
  pub most : k.most ≤ 11000
  pub gain : k.gain ≤ 12
  pub base : k.base ≤ 70000

-- the longest step, at s 1
abbrev pub time_most : ℕ
time_most = 1090909

-- the greatest q that a step is made from; by Gain no walk comes near it
abbrev pub square_most : ℕ
square_most = 1000000000

-- its root
abbrev pub root_most : ℕ
root_most = 31622

-- a curve, and a time on it
pub record Applied (k : Curve) (t : ℕ) : Type 0 where
  pub curve : Braking k
  pub clock : t ≤ steps_most * time_most

-- what the opposing force is made of, beside the consist: the greatest force of such a curve, and averages with room above a profile's 50,000 and 2,000
pub record Opposed (f s q : ℕ) (u : Under) : Type 0 where
  pub force : f ≤ 212500000
  pub root : s ≤ root_most
  pub squared : q ≤ square_most
  pub grade : nat_abs u.grade ≤ 128000
  pub curvature : u.curvature ≤ 512000

-- a run that has a step to make
pub record Moving (l : Load) (k : Curve) (u : Under) (r : Run) : Type 0 where
  pub rated : l.rated ≤ 10000000
  pub applied : Applied k r.clock
  pub grade : nat_abs u.grade ≤ 128000
  pub curvature : u.curvature ≤ 512000
  pub head : r.head ≤ farthest + 16 * steps_most
  pub some : 0 < r.q
  pub slow : r.q ≤ square_most
