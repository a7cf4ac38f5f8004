-- What the calls answer, put together, is the outcome before the penalty or behind it.
use mathlib.Core.Path.{◌≡◌, sym, ap, ◌∙◌}
use mathlib.Core.List.{List}
use Prim.Native.Nat.{ℕ}
use borrow.Author.Tests.{eq-eqb, ne_eqb}
use Rattle.consist.specs.declared.Consist.{Consist}
use Rattle.targets.specs.Targets.{most, speeds_in}
use Rattle.sample.specs.declared.Sample.{Sample}
use Rattle.brake.specs.declared.Brake.{Brake}
use Rattle.track.specs.declared.Track.{Track}
use Rattle.step.specs.declared.Curve.{Curve}
use Rattle.step.specs.Curve.{force_at, penalty_curve}
use Rattle.step.specs.Step.{ground_of}
use Rattle.walk.specs.declared.Prediction.{Prediction}
use Rattle.walk.specs.Walk.{predict_of}
use Rattle.judge.specs.declared.Listed.{Listed}
use Rattle.judge.specs.Judge.{cause_of, standing, emergency_cause_of}
use Rattle.judge.specs.Approach.{Approach, prediction_of, call_of}
use Rattle.judge.specs.Emergency.{Emergency, emergency_stop, emergency_call_of}
use Rattle.prediction.specs.Prediction.{approach_over, emergency_over, outcome_of}
use Rattle.prediction.specs.Steps.{listed_of}
use Rattle.prediction.proofs.over_route.Goals as goal

module _ (c : Consist) (k : Brake) (m : Sample) (t : List ℕ) (track : Track) (targets : Listed) (listed : targets ≡ listed_of t) where
  walk_is : (curve : Curve) (walked : Prediction) → curve ≡ penalty_curve c k.a k.b
      → walked ≡ predict_of c (force_at c.rated curve) (ground_of track c) m.head m.speed targets.speeds
      → walked ≡ prediction_of (approach_over c k m track) (speeds_in t most)
  unfolding prediction_of
  walk_is curve walked drawn e = rw (e, drawn, listed)

  cause_is : (walked : Prediction) (cause : ℕ) → walked ≡ prediction_of (approach_over c k m track) (speeds_in t most)
      → cause ≡ cause_of c.offset m.head m.speed targets.count targets.locations targets.speeds walked.arrivals
      → cause ≡ call_of (approach_over c k m track) t
  unfolding call_of
  cause_is walked cause w e = rw (e, w, listed)

  emergency_is : (stop cause : ℕ) → stop ≡ emergency_stop (emergency_over c k m track)
      → cause ≡ emergency_cause_of m.head targets.count targets.locations targets.speeds stop → cause ≡ emergency_call_of (emergency_over c k m track) t
  unfolding emergency_call_of
  emergency_is stop cause s e = rw (e, s, listed)

module _ (x : Approach) (e : Emergency) (stood : ℕ) (t : List ℕ) (walked : Prediction) (cause : ℕ)
    (f : walked ≡ prediction_of x (speeds_in t most)) (g : cause ≡ call_of x t) where
  same : standing stood cause ≡ standing stood (call_of x t)
  same = ap (standing stood) g

  before_penalty : standing stood cause ≡ 0
      → record { stop = walked.stop; called = cause; emergency_stop = 0; emergency_called = 0 } ≡ outcome_of x e stood t
  before_penalty none = rw (f, g, eq-eqb (standing stood (call_of x t)) 0 (sym same ∙ none))

  behind_penalty : (stop called : ℕ) → stop ≡ emergency_stop e → called ≡ emergency_call_of e t → (standing stood cause ≡ 0 → ⊥)
      → record { stop = walked.stop; called = cause; emergency_stop = stop; emergency_called = called } ≡ outcome_of x e stood t
  behind_penalty stop called h k some = rw (f, g, h, k, ne_eqb (standing stood (call_of x t)) 0 (λ z. some (same ∙ z)))

pub returns-then-standing-eq0 : goal.returns-then-standing-eq0
returns-then-standing-eq0 c =
    let a = c.args in
    let track = a.route.track.now in
    let listed = c.list_targets-targets.ensures in
    let walked = walk_is a.c a.k a.m a.t.now track _ listed _ c.predict-found.result c.penalty-curve.ensures c.predict-found.ensures in
    let called = cause_is a.c a.k a.m a.t.now track _ listed c.predict-found.result c.cause-called.result walked c.cause-called.ensures in
    before_penalty (approach_over a.c a.k a.m track) (emergency_over a.c a.k a.m track) a.stood a.t.now c.predict-found.result c.cause-called.result walked called
    (sym c.standing.ensures ∙ c.if-standing-eq0.true)

pub returns : goal.returns
returns c =
    let a = c.args in
    let track = a.route.track.now in
    let listed = c.list_targets-targets.ensures in
    let stop = c.stop_in_emergency-emergency_stop in
    let walked = walk_is a.c a.k a.m a.t.now track _ listed _ c.predict-found.result c.penalty-curve.ensures c.predict-found.ensures in
    let called = cause_is a.c a.k a.m a.t.now track _ listed c.predict-found.result c.cause-called.result walked c.cause-called.ensures in
    behind_penalty (approach_over a.c a.k a.m track) (emergency_over a.c a.k a.m track) a.stood a.t.now c.predict-found.result c.cause-called.result walked called
    stop.result c.emergency_cause.result stop.ensures
    (emergency_is a.c a.k a.m a.t.now track _ listed stop.result c.emergency_cause.result stop.ensures c.emergency_cause.ensures)
    (λ z. c.if-standing-eq0.false (c.standing.ensures ∙ z))
