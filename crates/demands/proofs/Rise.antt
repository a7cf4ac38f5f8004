-- Trains that speed up again, computed. Assumes nothing.
use mathlib.Core.Path.{◌≡◌, refl}
use mathlib.Core.Bool.{true}
use native.Mathlib.Omega.{arith}
use Rattle.whole.specs.Floor.{floor_div}
use Rattle.whole.specs.Ceiling.{ceil_div}
use Rattle.whole.specs.Root.{digits, root_of}
use Rattle.blocks.specs.Blocks.{none}
use Rattle.track.specs.Track.{feet, grade_feet, curvature_feet, grade_under, curvature_under}
use Rattle.shares.specs.Shares.{ground_under}
use Rattle.step.specs.Curve.{drop_at, cylinder_at, force_at, penalty_curve}
use Rattle.step.specs.Step.{opposing, loss, step_time, step_of}
use Rattle.walk.specs.Walk.{never, stays, walk_to, arrival_for}
use Rattle.judge.specs.Judge.{is_judged, offset_for, is_called}
use Rattle.judge.specs.Approach.{force, ground, arrival_of}
use Rattle.laws.specs.Crossing.{crossing_to, crossing_for, Crossed, Crossings}
use Rattle.demands.specs.Rise.{unbraked, called, RiseFigures}
use Rattle.laws.proofs.Crossing.{crossings}

-- the walk that is cut
no_stop : arrival_of (unbraked 5000 5000) 0 ≡ never
unfolding floor_div ceil_div digits root_of none feet grade_feet curvature_feet grade_under curvature_under ground_under drop_at cylinder_at force_at penalty_curve opposing loss step_time step_of stays walk_to arrival_for is_judged offset_for is_called arrival_of crossing_to crossing_for
no_stop = refl

crossed : Crossed (unbraked 5000 5000).consist (force (unbraked 5000 5000)) (ground (unbraked 5000 5000)) 5000 5000
unfolding Crossings
crossed = crossings (unbraked 5000 5000).consist (force (unbraked 5000 5000)) (ground (unbraked 5000 5000)) 5000 5000

-- by the law: `stays` looks ahead to the cut from each step
cut : arrival_of (unbraked 5000 5000) 4500 ≡ never
unfolding arrival_of
cut = crossed.missing 4500 no_stop

judged : is_judged 5000 20000 ≡ true
unfolding is_judged
judged = refl

cut_called : called (unbraked 5000 5000) 20000 9000 ≡ true
unfolding arrival_of
cut_called = crossed.cut_calls no_stop 500 20000 9000 (omega arith) judged

pub rise_figures : RiseFigures
unfolding floor_div ceil_div digits root_of none feet grade_feet curvature_feet grade_under curvature_under ground_under drop_at cylinder_at force_at penalty_curve opposing loss step_time step_of stays walk_to arrival_for is_judged offset_for is_called arrival_of crossing_to crossing_for
rise_figures = record {
  dips = refl;
  settles = refl;
  stops = refl;
  equal = refl;
  a_foot_further = refl;
  nowhere_above = refl;
  below_at_first = refl;
  rises = refl;
  first_not_called = refl;
  second_called = refl;
  crossed = refl;
  no_stop = no_stop;
  cut = cut;
  cut_called = cut_called;
  at_rest = refl;
}
