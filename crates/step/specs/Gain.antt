-- How fast a walk can get, by document 02's R-10: "Inside 01's limits the greatest gain a step, over 2,048 steps, from 100 mph, stays under the
-- bound." Over any brake force that is not negative, and any ground that falls no more than a profile may. Statements; proofs/Gain.antt proves them.
use Rattle.std.specs.Prelude.{◌≡◌, ℕ, zero, suc, ◌+◌, ◌*◌, ◌≤◌, negsuc, ◌≤ℤ◌}
use Rattle.blocks.specs.Blocks.{none}
use Rattle.consist.specs.declared.Consist.{Consist}
use Rattle.track.specs.declared.Under.{Under}
use Rattle.step.specs.declared.Run.{Run}
use Rattle.step.specs.Step.{steps_most, Ground, even, step_of}
use Rattle.step.specs.Range.{square_most}

-- "the greatest gain a step"
abbrev pub gain_most : ℕ
gain_most = 238064

-- "axles (2 to 2,000), weight (10 to 30,000)", as far as a gain reads them
pub record Limited (c : Consist) : Type 0 where
  pub lightest : 10 ≤ c.weight
  pub heaviest : c.weight ≤ 30000
  pub axles : 2 ≤ c.axles

-- "grade (-500 to 500)", in ten-thousandths: nowhere below -50,000
pub record NoSteeper (ground : Ground) : Type 0 where
  pub grade : (head : ℕ) → negsuc 49999 ≤ℤ ground.grade head

-- "speed above 100" is refused
abbrev pub speed_most : ℕ
speed_most = 10000

-- the run after n steps
unfoldable pub after_steps : Consist → (ℕ → ℕ) → Ground → ℕ → Run → Run
after_steps c force ground zero r = r
after_steps c force ground (suc n) r = step_of c force ground (after_steps c force ground n r)

pub record Gains (c : Consist) (force : ℕ → ℕ) (ground : Ground) : Type 0 where
  pub each : (r : Run) → (step_of c force ground r).q ≤ r.q + gain_most
  pub after : (r : Run) (n : ℕ) → (after_steps c force ground n r).q ≤ r.q + gain_most * n
  -- "over 2,048 steps, from 100 mph, stays under the bound"
  pub under : (r : Run) (v n : ℕ) → r.q ≡ v * v → v ≤ speed_most → n ≤ steps_most → (after_steps c force ground n r).q ≤ square_most

unfoldable pub GainsAtMost : Type 0
GainsAtMost = (c : Consist) (force : ℕ → ℕ) (ground : Ground) → Limited c → NoSteeper ground → Gains c force ground

-- ---- figures: the train and the ground that gain most, unbraked

abbrev pub heaviest_train : Consist
heaviest_train = record {
  cars = 1;
  axles = 2;
  weight = 30000;
  length = 50;
  rated = 0;
  application = 1000;
  recharge = 1;
  set = 7000;
  offset = 0;
  blocks = none;
}

abbrev pub steepest_ground : Under
steepest_ground = record { grade = negsuc 49999; curvature = 0 }

-- with this squared speed
abbrev pub running : ℕ → Run
running q = record { head = 0; clock = 0; q = q }

pub record Reached : Type 0 where
  -- no smaller gain will do
  pub step : (step_of heaviest_train (λ t. 0) (even steepest_ground) (running 1)).q ≡ 1 + gain_most
  -- from 100 mph, at the walk's end
  pub walk : (after_steps heaviest_train (λ t. 0) (even steepest_ground) steps_most (running (speed_most * speed_most))).q ≡ 578336321
