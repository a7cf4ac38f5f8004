-- What a prediction answers is what a decision may have: causes of the list, locations on the track or none. Assumes nothing.
use mathlib.Core.Path.{◌≡◌, refl, ap}
use mathlib.Core.Bool.{Bool, true, false, ◌||◌, cond}
use mathlib.Core.List.{List}
use Prim.Native.Nat.{ℕ, ◌+◌, ◌≤◌}
use native.Mathlib.Omega.{arith}
use lib.Dec.{leb, eqb}
use borrow.Author.Tests.{le-leb}
use Rattle.record.specs.Location.{farthest, no_stop}
use Rattle.targets.specs.Targets as targets
use Rattle.walk.specs.Walk.{Arrival, at, never, reach, location_of, predict_of}
use Rattle.walk.proofs.Reach.{NoFurther, arrival_no_further}
use Rattle.judge.specs.Judge.{standing}
use Rattle.judge.specs.Approach.{Approach, force, ground, arrival_of, prediction_of, call_of}
use Rattle.judge.specs.Emergency.{Emergency, emergency_force, emergency_arrival, emergency_stop, emergency_call_of}
use Rattle.judge.proofs.Causes.{cause_most, emergency_cause_most}
use Rattle.prediction.specs.Prediction.{behind, outcome_of}

-- as a decision's location
abbrev Right : ℕ → Type 0
Right n = (leb n farthest || eqb n no_stop) ≡ true

right_location : (y : Arrival) → NoFurther farthest y → Right (location_of y)
right_location (at h) w = ap (λ (b : Bool). b || eqb h no_stop) (le-leb h farthest w)
right_location never w = refl

-- before the penalty, 0 is such a location and such a cause
behind_right : (cause told : ℕ) → Right told → Right (behind cause told)
behind_right cause told h = go (eqb cause 0)
  where
    go : (b : Bool) → Right (cond b 0 told)
    go true = refl
    go false = h

behind_most : (cause told : ℕ) → behind cause told ≤ told
behind_most cause told = go (eqb cause 0)
  where
    go : (b : Bool) → cond b 0 told ≤ told
    go true = omega arith
    go false = omega arith

module _ (x : Approach) (e : Emergency) (stood : ℕ) (t : List ℕ) where
  pub called_most : (outcome_of x e stood t).called ≤ targets.most
  unfolding call_of
  called_most = cause_most x.consist.offset x.head x.speed (targets.count t) (targets.locations_in t targets.most) (targets.speeds_in t targets.most) _

  pub stop_right : x.head + reach ≤ farthest → Right (outcome_of x e stood t).stop
  unfolding arrival_of prediction_of predict_of
  stop_right h = right_location (arrival_of x 0) (arrival_no_further x.consist (force x) (ground x) x.head x.speed 0 farthest h)

  pub emergency_called_most : (outcome_of x e stood t).emergency_called ≤ targets.most
  unfolding emergency_call_of
  emergency_called_most =
      omega (
        arith,
        behind_most (standing stood (call_of x t)) (emergency_call_of e t),
        emergency_cause_most e.approach.head (targets.count t) (targets.locations_in t targets.most) (targets.speeds_in t targets.most) (emergency_stop e),
      )

  pub emergency_stop_right : e.approach.head + reach ≤ farthest → Right (outcome_of x e stood t).emergency_stop
  unfolding emergency_arrival
  emergency_stop_right h =
      let y = e.approach in
      behind_right (standing stood (call_of x t)) (emergency_stop e)
      (right_location (emergency_arrival e) (arrival_no_further y.consist (emergency_force e) (ground y) y.head y.speed 0 farthest h))
