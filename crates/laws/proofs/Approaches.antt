-- Two approaches compared: the walk's comparison at the penalty's curve, the offset's order, and the call for each target. Assumes nothing.
use mathlib.Core.Path.{◌≡◌}
use mathlib.Core.Bool.{Bool, true, false, ◌&&◌}
use mathlib.Core.List.{List, [], ◌∷◌, map}
use Prim.Native.Nat.{ℕ, zero, suc, ◌+◌, ◌≤◌, ◌<◌, min}
use native.Mathlib.Nat.{le_refl}
use native.Mathlib.Omega.{arith}
use lib.Dec.{ltb}
use lib.ListN.{get_or}
use borrow.Author.Tests.{ltb-true, lt-ltb}
use Rattle.record.specs.Location.{farthest}
use Rattle.targets.specs.Targets.{most, count, locations_in, speeds_in}
use Rattle.consist.specs.Sound.{Sound}
use Rattle.walk.specs.Walk.{location_of, predict_of}
use Rattle.judge.specs.Judge.{is_judged, offset_for, is_called, cause_of}
use Rattle.judge.specs.Approach.{Approach, force, arrival_of, prediction_of, call_of}
use Rattle.laws.specs.Compare.{Weaker}
use Rattle.laws.specs.Approaches.{Worse, Compared}
use Rattle.laws.proofs.Forces.{penalty_weaker}
use Rattle.laws.proofs.Offsets.{offset_grows}
use Rattle.laws.proofs.Alongside as alongside
use Rattle.laws.proofs.Alongside.{Alongside, first_some}

-- a call stays with a greater offset, speed and location
past_grows : (j : Bool) (t x y : ℕ) → x ≤ y → j && ltb t x ≡ true → j && ltb t y ≡ true
past_grows true t x y h e = lt-ltb t y (omega (arith, ltb-true t x e))
past_grows false t x y h e = e

pub called_grows : (o o' head head' v v' t u x x' : ℕ) → o ≤ o' → head' ≡ head → v ≤ v' → x ≤ x' →
    is_called o head v t u x ≡ true → is_called o' head' v' t u x' ≡ true
unfolding is_called
called_grows o o' head head' v v' t u x x' ho e hv hx c =
    rw e (past_grows (is_judged head t) t (x + offset_for o v u) (x' + offset_for o' v' u) (omega (arith, offset_grows o o' v v' u ho hv)) c)

map_grows : (f g : ℕ → ℕ) → ((u : ℕ) → f u ≤ g u) → (us : List ℕ) (k : ℕ) → get_or (map f us) k 0 ≤ get_or (map g us) k 0
map_grows f g h [] k = le_refl 0
map_grows f g h (u ∷ us) zero = h u
map_grows f g h (u ∷ us) (suc k) = map_grows f g h us k

module _ (one other : Approach) (s : Sound one.consist) (s' : Sound other.consist) (h : one.head ≤ farthest) (w : Worse one other) where
  weaker : Weaker (force one) (force other)
  weaker =
      rw (w.a, w.b)
      (penalty_weaker one.consist other.consist other.a other.b (omega arith) w.set w.rated w.application)

  beside : Alongside one other
  beside = record {
    speed = w.speed;
    cars = w.cars;
    axles = w.axles;
    weight = w.weight;
    length = w.length;
    blocks = w.blocks;
    track = w.track;
    head = w.head;
  }

  farther : (u : ℕ) → location_of (arrival_of other u) ≤ location_of (arrival_of one u)
  unfolding arrival_of
  farther u = alongside.farther one other (force one) (force other) s h beside weaker u

  called : (targets : List ℕ) → 0 < call_of other targets → 0 < call_of one targets
  unfolding arrival_of prediction_of predict_of call_of cause_of
  called t =
      first_some _ _
      (λ k.
      called_grows other.consist.offset one.consist.offset other.head one.head other.speed one.speed
      (get_or (locations_in t most) k 0) (get_or (speeds_in t most) k 0) _ _ w.offset w.head w.speed
      (map_grows (λ u. location_of (arrival_of other u)) (λ u. location_of (arrival_of one u)) farther (speeds_in t most) k))
      0 (min (count t) most)

pub compared : Compared
unfolding Compared arrival_of prediction_of predict_of
compared one other s s' h w = record {
  not_short = alongside.not_short one other (force one) (force other) s h (beside one other s s' h w) (weaker one other s s' h w);
  stop = λ speeds. farther one other s s' h w 0;
  called = called one other s s' h w;
}
