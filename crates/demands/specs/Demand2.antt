-- Demand 2: "Air brake state, predicted locations and decision equal, to the last unit, the rules of document 01. .. Once commanded, a penalty
-- stands until the session is opened anew." And of document 02's R-5: the second record equals its rules, and emergency "stays called".
-- Statements; proofs/{Machine,History,Locations}.antt prove them.
use Rattle.std.specs.Prelude.{◌≡◌, Bool, true, false, List, [], ◌∷◌, ◌++◌, map, ℕ, ◌*◌, ◌<◌, min}
use Rattle.refusal.specs.Verdict.{Verdict}
use Rattle.targets.specs.Targets.{most, count, target_at, speeds_in}
use Rattle.decision.specs.declared.Decision.{Decision}
use Rattle.walk.specs.Walk.{Arrival, location_of}
use Rattle.laws.specs.Literal.{walk_z, start_z}
use Rattle.judge.specs.Judge.{is_called, is_emergency_called, first_from}
use Rattle.judge.specs.Approach.{Approach, force, ground, prediction_of, call_of}
use Rattle.judge.specs.Emergency.{Emergency, emergency_force, emergency_stop, emergency_call_of}
use Rattle.sampling.specs.Laws.{Lent}
use Rattle.demands.specs.Machine.{Call, opening, sampling, Lends, LendsEach, Machine, call, replies, after, Holding, Accepts, Decides}
use Rattle.demands.specs.History.{Begun, stands_in, decision_at, Standing, nothing, since, session_at, standing_after, paper_from}

module _ {S T : Type 0} (h : Holding S T) where
  -- a verdict and an output, as they are told
  abbrev pub telling : Verdict × List ℕ → T × List ℕ
  telling r = (h.tell r.0, r.1)

  -- the state that holds what stands; before any opening, as it was at first
  abbrev pub state_at : S → Standing → S
  state_at z nothing = z
  state_at z (since c l) = h.put z (session_at (since c l))

  module _ (m : Machine S T) where
    -- no opening among the calls is accepted
    abbrev pub NotOpenedAnew : S → List Call → Type 0
    NotOpenedAnew z [] = Unit {0}
    NotOpenedAnew z (opening s choice ∷ ks) = let r = call m z (opening s choice) in (Accepts h r → ⊥) × NotOpenedAnew r.state ks
    NotOpenedAnew z (sampling l ∷ ks) = NotOpenedAnew (call m z (sampling l)).state ks

    pub record Demand2 : Type 0 where
      -- what is told by every call of every run is the paper's: the verdict and each byte of the output
      pub told : (ks : List Call) → LendsEach ks → replies m m.none ks ≡ map telling (paper_from nothing ks)
      -- and the state after it holds the time in force, the air brakes, what is kept of learning, and the two causes of the history that stands
      pub history_held : (ks : List Call) → LendsEach ks → after m m.none ks ≡ state_at m.none (standing_after nothing ks)
      -- each record of a sample that is accepted then reads as the paper's decision, of the penalty and of emergency
      pub decision_read : (e : Bool) (ks : List Call) (l : Lent) → LendsEach ks → Lends (sampling l) →
          (c : Begun) (past : List Lent) → standing_after nothing ks ≡ since c past →
          let r = call m (after m m.none ks) (sampling l) in
          Accepts h r → Decides h e r (decision_at e c past l)
      -- "Once commanded, a penalty stands until the session is opened anew.", and so does an emergency: a decision d with the bit, any calls after it,
      -- and a decision d' after those, whatever the state at first
      pub stands : (e : Bool) (z : S) (l l' : Lent) (ks : List Call) (d d' : Decision) → h.Fits z → Lends (sampling l) → LendsEach ks → Lends (sampling l') →
          let r = call m z (sampling l) in
          Decides h e r d → d.penalty ≡ true → NotOpenedAnew r.state ks → Decides h e (call m (after m r.state ks) (sampling l')) d'
          → (d'.penalty ≡ true) × (d'.cause ≡ d.cause)
      -- no emergency without a penalty
      pub penalty_first : (z : S) (l : Lent) (d d' : Decision) → h.Fits z → Lends (sampling l) →
          let r = call m z (sampling l) in
          Decides h false r d → Decides h true r d' → d'.penalty ≡ true → d.penalty ≡ true

-- in the paper's words: whatever samples are accepted later, the cause of a history stays, of the penalty and of emergency
unfoldable pub CauseStays : Type 0
CauseStays = (e : Bool) (c : Begun) (h later : List Lent) → 0 < stands_in e c h → stands_in e c (later ++ h) ≡ stands_in e c h

-- ---- the locations, by the walk as the paper words it, with a squared speed that may be below zero

-- of any approach, so of that which each sample of a history makes
module _ (x : Approach) where
  -- document 02's R-2: "the first head from which, to the end of the walk, the speed stays at or below the target's". For the stop the speed is 0.
  abbrev pub literally : ℕ → Arrival
  literally u = walk_z x.consist (force x) (ground x) (u * u) 2048 (start_z x.head x.speed)

  abbrev pub location_for : ℕ → ℕ
  location_for u = location_of (literally u)

  module _ (targets : List ℕ) where
    -- "The penalty is called when location plus offset is greater than the target": of target k
    abbrev pub calls_for : ℕ → Bool
    calls_for k =
        let target = target_at targets k in
        is_called x.consist.offset x.head x.speed target.location target.speed (location_for target.speed)

    pub record Located : Type 0 where
      pub stop : (prediction_of x (speeds_in targets most)).stop ≡ location_for 0
      pub arrivals : (prediction_of x (speeds_in targets most)).arrivals ≡ map location_for (speeds_in targets most)
      -- "The cause is the first such target"
      pub call : call_of x targets ≡ first_from calls_for 0 (min (count targets) most)

unfoldable pub Locations : Type 0
Locations = (x : Approach) (targets : List ℕ) → Located x targets

-- the same of emergency's walk
module _ (e : Emergency) where
  -- "predict a stop by emergency air too"
  abbrev pub emergency_literally : ℕ
  emergency_literally = let x = e.approach in location_of (walk_z x.consist (emergency_force e) (ground x) 0 2048 (start_z x.head x.speed))

  module _ (targets : List ℕ) where
    -- "Emergency is called if the stop is at or past a judged target of speed 0, with no offset": of target k
    abbrev pub calls_emergency : ℕ → Bool
    calls_emergency k = let target = target_at targets k in is_emergency_called e.approach.head target.location target.speed emergency_literally

    pub record EmergencyLocated : Type 0 where
      pub stop : emergency_stop e ≡ emergency_literally
      pub call : emergency_call_of e targets ≡ first_from calls_emergency 0 (min (count targets) most)

unfoldable pub EmergencyLocations : Type 0
EmergencyLocations = (e : Emergency) (targets : List ℕ) → EmergencyLocated e targets
