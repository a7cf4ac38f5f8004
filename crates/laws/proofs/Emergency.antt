-- Two emergencies compared: the walk's comparison at their curve, and the call for each target. Assumes nothing.
use mathlib.Core.Path.{◌≡◌}
use mathlib.Core.Bool.{Bool, true, false, ◌&&◌}
use mathlib.Core.List.{List}
use Prim.Native.Nat.{ℕ, ◌≤◌, ◌<◌, min}
use native.Mathlib.Omega.{arith}
use lib.Dec.{leb, eqb}
use lib.ListN.{get_or}
use borrow.Author.Tests.{leb-true, le-leb}
use Rattle.record.specs.Location.{farthest}
use Rattle.targets.specs.Targets.{most, count, locations_in, speeds_in}
use Rattle.consist.specs.Sound.{Sound}
use Rattle.judge.specs.Judge.{is_judged, is_emergency_called, emergency_cause_of}
use Rattle.judge.specs.Emergency.{Emergency, emergency_force, emergency_arrival, emergency_stop, emergency_call_of}
use Rattle.laws.specs.Compare.{Weaker}
use Rattle.laws.specs.Emergency.{EmergencyWorse, EmergencyCompared}
use Rattle.laws.proofs.Forces.{emergency_weaker}
use Rattle.laws.proofs.Alongside as alongside
use Rattle.laws.proofs.Alongside.{Alongside, first_some}

-- a call stays with a farther stop
past_grows : (j z : Bool) (t x y : ℕ) → x ≤ y → j && z && leb t x ≡ true → j && z && leb t y ≡ true
past_grows true true t x y h e = le-leb t y (omega (arith, leb-true t x e))
past_grows true false t x y h e = e
past_grows false z t x y h e = e

called_grows : (head head' t u x x' : ℕ) → head' ≡ head → x ≤ x' → is_emergency_called head t u x ≡ true → is_emergency_called head' t u x' ≡ true
unfolding is_emergency_called
called_grows head head' t u x x' e h c = rw e (past_grows (is_judged head t) (eqb u 0) t x x' h c)

module _ (one other : Emergency) (s : Sound one.approach.consist) (h : one.approach.head ≤ farthest) (w : EmergencyWorse one other) where
  weaker : Weaker (emergency_force one) (emergency_force other)
  weaker =
      rw (w.a, w.b, w.equalization)
      (emergency_weaker one.approach.consist.rated other.approach.consist.rated other.approach.a other.approach.b other.equalization
      w.rated)

  beside : Alongside one.approach other.approach
  beside = record {
    speed = w.speed;
    cars = w.cars;
    axles = w.axles;
    weight = w.weight;
    length = w.length;
    blocks = w.blocks;
    track = w.track;
    head = w.head;
  }

  farther : emergency_stop other ≤ emergency_stop one
  unfolding emergency_arrival
  farther = alongside.farther one.approach other.approach (emergency_force one) (emergency_force other) s h beside weaker 0

  called : (targets : List ℕ) → 0 < emergency_call_of other targets → 0 < emergency_call_of one targets
  unfolding emergency_call_of emergency_cause_of
  called t =
      first_some _ _
      (λ k.
      called_grows other.approach.head one.approach.head (get_or (locations_in t most) k 0) (get_or (speeds_in t most) k 0) _ _ w.head farther)
      0 (min (count t) most)

pub emergency_compared : EmergencyCompared
unfolding EmergencyCompared emergency_arrival
emergency_compared one other s h w = record {
  not_short =
      alongside.not_short one.approach other.approach (emergency_force one) (emergency_force other) s h (beside one other s h w)
      (weaker one other s h w) 0;
  stop = farther one other s h w;
  called = called one other s h w;
}
