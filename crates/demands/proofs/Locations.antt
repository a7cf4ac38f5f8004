-- What is decided and judged is the location of the paper's own walk. Assumes nothing.
use mathlib.Core.Path.{◌≡◌, refl, sym, ap, ap₂, fun_ext, ◌∙◌}
use mathlib.Core.Bool.{Bool, cond}
use mathlib.Core.List.{List, map}
use Prim.Native.Nat.{ℕ, zero, suc, ◌+◌, ◌<◌, min}
use native.Mathlib.Omega.{arith}
use Rattle.bits.proofs.UpTo.{get_or_up_to}
use Rattle.targets.specs.Targets.{most, count, target_at, speeds_in, locations_in}
use Rattle.walk.specs.Walk.{location_of, predict_of}
use Rattle.laws.specs.Literal.{Literally}
use Rattle.laws.proofs.Literal as walk
use Rattle.judge.specs.Judge.{is_called, calls, first_from, cause_of, is_emergency_called, emergency_calls, emergency_cause_of}
use Rattle.judge.specs.Approach.{Approach, ground, arrival_of, prediction_of, call_of}
use Rattle.judge.specs.Emergency.{Emergency, emergency_force, emergency_arrival, emergency_stop, emergency_call_of}
use Rattle.demands.specs.Demand2.{literally, location_for, calls_for, Locations, emergency_literally, calls_emergency, EmergencyLocations}

-- tests that agree have the same first
first_same : (f g : ℕ → Bool) (k n : ℕ) → ((i : ℕ) → i < k + n → f i ≡ g i) → first_from f k n ≡ first_from g k n
unfolding first_from
first_same f g k zero e = refl
first_same f g k (suc n) e =
    ap₂ (λ (b : Bool) (rest : ℕ). cond b (suc k) rest) (e k (omega arith)) (first_same f g (suc k) n (λ i h. e i (omega arith)))

called_same : (offset head v : ℕ) {a b x y l m : ℕ} → a ≡ b → x ≡ y → l ≡ m → is_called offset head v a x l ≡ is_called offset head v b y m
called_same offset head v p q r = cc

module _ (x : Approach) where
  arrival_is : (u : ℕ) → arrival_of x u ≡ literally x u
  unfolding Literally arrival_of
  arrival_is u = sym (walk.literally x.consist _ _ _ _ u)

  location_is : (u : ℕ) → location_of (arrival_of x u) ≡ location_for x u
  location_is u = ap location_of (arrival_is u)

  call_is : (t : List ℕ) (i : ℕ) → i < most →
      calls x.consist.offset x.head x.speed (locations_in t most) (speeds_in t most) (prediction_of x (speeds_in t most)).arrivals i
      ≡ calls_for x t i
  unfolding arrival_of prediction_of predict_of
  call_is t i s =
      let target = target_at t in
      called_same x.consist.offset x.head x.speed (get_or_up_to (λ k. (target k).location) most i 0 s)
      (get_or_up_to (λ k. (target k).speed) most i 0 s)
      (get_or_up_to (λ k. location_of (arrival_of x (target k).speed)) most i 0 s ∙ location_is (target i).speed)

pub locations : Locations
unfolding Locations arrival_of prediction_of predict_of call_of cause_of
locations x t = record {
  stop = location_is x 0;
  arrivals = ap (λ (f : ℕ → ℕ). map f (speeds_in t most)) (fun_ext (location_is x));
  call = first_same _ (calls_for x t) 0 (min (count t) most) (λ i s. call_is x t i (omega arith));
}

module _ (e : Emergency) where
  emergency_is : emergency_stop e ≡ emergency_literally e
  unfolding Literally emergency_arrival
  emergency_is = let x = e.approach in ap location_of (sym (walk.literally x.consist (emergency_force e) (ground x) x.head x.speed 0))

  emergency_call_is : (t : List ℕ) (i : ℕ) → i < most →
      emergency_calls e.approach.head (locations_in t most) (speeds_in t most) (emergency_stop e) i ≡ calls_emergency e t i
  emergency_call_is t i s =
      let target = target_at t in
      emergency_same e.approach.head (get_or_up_to (λ k. (target k).location) most i 0 s) (get_or_up_to (λ k. (target k).speed) most i 0 s) emergency_is
    where
      emergency_same : (head : ℕ) {a b x y l m : ℕ} → a ≡ b → x ≡ y → l ≡ m → is_emergency_called head a x l ≡ is_emergency_called head b y m
      emergency_same head p q r = cc

pub emergency_locations : EmergencyLocations
unfolding EmergencyLocations emergency_call_of emergency_cause_of
emergency_locations e t = record {
  stop = emergency_is e;
  call = first_same _ (calls_emergency e t) 0 (min (count t) most) (λ i s. emergency_call_is e t i (omega arith));
}
