-- What is known of an admitted sample: the walk can be made, and its decision is in range. Assumes nothing.
use mathlib.Core.Path.{◌≡◌, refl, ap}
use mathlib.Core.Bool.{Bool, true, false, not, cond, ◌||◌, beq}
use mathlib.Core.List.{List}
use Prim.Native.Nat.{ℕ, ◌^◌, ◌≤◌, ◌<◌}
use native.Mathlib.Omega.{arith}
use lib.Dec.{leb, eqb}
use borrow.Author.Tests.{not-false, lt-leb, le-ltb}
use Rattle.refusal.specs.Lowest.{lowest}
use Rattle.refusal.specs.declared.Refusal.TheVariants.{NoSession}
use Rattle.refusal.specs.Verdict.{Accepted, Refused}
use Rattle.refusal.proofs.Order.{accepted, given, passed}
use Rattle.record.specs.Location.{farthest, no_stop}
use Rattle.targets.specs.Targets as targets
use Rattle.sample.specs.declared.Sample.{Sample}
use Rattle.decision.specs.Decision as decision
use Rattle.brake.proofs.StateNumbers.{number_most}
use Rattle.admission.specs.Steps.{rules_in}
use Rattle.admission.proofs.Admitted as admission
use Rattle.prediction.specs.Steps.{Ready}
use Rattle.prediction.proofs.Ready as walking
use Rattle.judge.specs.Judge.{standing}
use Rattle.prediction.proofs.Bounds.{called_most, stop_right, emergency_called_most, emergency_stop_right}
use Rattle.session.specs.declared.Session.{Session}
use Rattle.session.specs.Session.{is_open}
use Rattle.sampling.specs.Sample.{sample_in, approach, emergency, cause_after, emergency_after, brake_after, decided_with, decision_of, emergency_decision_of}
use Rattle.session.proofs.Opened.{Opened, opened}
use Rattle.sampling.specs.Steps.{rules_before}

-- ---- the decision's fields

-- what stands is within the list where both what stood and what is called are
within : (stood called : ℕ) → stood ≤ targets.most → called ≤ targets.most → standing stood called ≤ targets.most
unfolding standing
within stood called h k = go (eqb stood 0)
  where
    go : (b : Bool) → cond b called stood ≤ targets.most
    go true = k
    go false = h

module _ (x : Session) (m : Sample) (p t : List ℕ) where
  pub cause_within : x.cause ≤ targets.most → cause_after x m p t ≤ targets.most
  unfolding cause_after
  cause_within h = within x.cause _ h (called_most (approach x m p) (emergency x m p) x.cause t)

  pub emergency_within : x.emergency ≤ targets.most → emergency_after x m p t ≤ targets.most
  unfolding emergency_after
  emergency_within h = within x.emergency _ h (emergency_called_most (approach x m p) (emergency x m p) x.cause t)

never_at_odds : (cause : ℕ) → not (beq (not (eqb cause 0)) (not (eqb cause 0))) ≡ false
never_at_odds cause = go (not (eqb cause 0))
  where
    go : (b : Bool) → not (beq b b) ≡ false
    go true = refl
    go false = refl

-- a record of numbers within their ranges
right : (b : Bool) (time state cause stop : ℕ) → time < 2 ^ 24 → state ≤ 5 → cause ≤ targets.most → leb stop farthest || eqb stop no_stop ≡ true
    → decision.out_of_range (decided_with b time state cause stop) ≡ false
unfolding decision.out_of_range
right b time state cause stop h k l r =
    rw (lt-leb (2 ^ 24) time h, le-ltb 5 state k, le-ltb targets.most cause l, never_at_odds cause, ap not r)

-- ---- 1, and then what the admission says

module _ (x : Session) (s p t : List ℕ) where
  pub not_open : is_open x ≡ false → lowest (rules_before x s p t) ≡ Refused NoSession
  not_open h = given _ _ _ tt (ap not h)

  pub past_open : is_open x ≡ true → lowest (rules_before x s p t) ≡ lowest (rules_in x.consist x.brake s p t)
  past_open h = passed _ _ _ (ap not h)

-- ---- nothing is refused before the walk

module _ (x : Session) (s p t : List ℕ) (h : lowest (rules_before x s p t) ≡ Accepted) where
  one_by_one : (is_open x ≡ true) × (lowest (rules_in x.consist x.brake s p t) ≡ Accepted)
  one_by_one = let a = accepted _ _ _ h in (not-false (is_open x) a.0, a.1)

  pub is_opened : Opened x
  is_opened = opened x one_by_one.0

  pub ready : Ready x.consist x.brake (sample_in s) p
  ready =
      let a = one_by_one.1 in
      walking.ready _ _ _ _ is_opened.consist is_opened.brake (admission.bounded _ _ s p t a) (admission.judged _ _ s p t a)
      (omega (arith, admission.covered _ _ s p t a))

  -- ---- the decision

  pub in_range : decision.out_of_range (decision_of x (sample_in s) p t) ≡ false
  in_range =
      let m = sample_in s in
      right false m.time _ _ _ ready.sample.time (number_most (brake_after x m).state) (cause_within x m p t is_opened.cause)
      (stop_right (approach x m p) (emergency x m p) x.cause t (admission.covered _ _ s p t one_by_one.1))

  pub emergency_in_range : decision.out_of_range (emergency_decision_of x (sample_in s) p t) ≡ false
  emergency_in_range =
      let m = sample_in s in
      right true m.time _ _ _ ready.sample.time (number_most (brake_after x m).state) (emergency_within x m p t is_opened.emergency)
      (emergency_stop_right (approach x m p) (emergency x m p) x.cause t (admission.covered _ _ s p t one_by_one.1))
