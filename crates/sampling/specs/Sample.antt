-- A sample call: its refusals, the update, the prediction, the standing penalty and emergency, the two decisions. Definitions only.
use Rattle.std.specs.Prelude.{Bool, true, false, not, List, ◌∷◌, ℕ, eqb}
use Rattle.refusal.specs.Lowest.{Rule, lowest}
use Rattle.refusal.specs.Steps.{kept}
use Rattle.refusal.specs.Written.{written}
use Rattle.refusal.specs.declared.Refusal.TheVariants.{NoSession}
use Rattle.sample.specs.declared.Sample.{Sample}
use Rattle.sample.specs.Sample as sample
use Rattle.decision.specs.declared.Decision.{Decision}
use Rattle.decision.specs.Decision as decision
use Rattle.brake.specs.declared.Brake.{Brake}
use Rattle.brake.specs.State.{state_number}
use Rattle.update.specs.Rules.{update_of}
use Rattle.learn.specs.declared.Lesson.{Lesson}
use Rattle.learn.specs.Kept.{taught_of}
use Rattle.judge.specs.Judge.{standing}
use Rattle.judge.specs.Approach.{Approach}
use Rattle.judge.specs.Emergency.{Emergency}
use Rattle.admission.specs.Table.{wrong_time, lines_open}
use Rattle.prediction.specs.declared.Outcome.{Outcome}
use Rattle.prediction.specs.Prediction.{approach_of, emergency_of, outcome_of}
use Rattle.session.specs.declared.Session.{Session}
use Rattle.session.specs.Session.{Answer, is_open, answer}
use Rattle.sampling.specs.Learning.{shown_of, in_force}

-- the sample that bytes stand for
abbrev pub sample_in : List ℕ → Sample
sample_in s = sample.sample_of (sample.raw_in s)

-- 1: "a sample is offered and no session is open"
abbrev pub not_open : Session → Bool
not_open x = not (is_open x)

-- ---- the update, the prediction and the judgement

-- the air brakes after the sample
abbrev pub brake_after : Session → Sample → Brake
brake_after x m = update_of x.consist x.brake m.time m.front m.rear

-- "It starts after the update"
abbrev pub approach : Session → Sample → List ℕ → Approach
approach x m p = approach_of x.consist (brake_after x m) m p

-- R-5: "predict a stop by emergency air too"
abbrev pub emergency : Session → Sample → List ℕ → Emergency
emergency x m p = emergency_of x.consist (brake_after x m) m p

abbrev pub prediction : Session → Sample → List ℕ → List ℕ → Outcome
prediction x m p t = outcome_of (approach x m p) (emergency x m p) x.cause t

-- "The cause is the first such target and, like the penalty, stays."
unfoldable pub cause_after : Session → Sample → List ℕ → List ℕ → ℕ
cause_after x m p t = standing x.cause (prediction x m p t).called

-- R-5: "Emergency is called .. and it stays called."
unfoldable pub emergency_after : Session → Sample → List ℕ → List ℕ → ℕ
emergency_after x m p t = standing x.emergency (prediction x m p t).emergency_called

-- R-3: what the sample teaches, "after the update"
abbrev pub lesson_after : Session → Sample → Lesson
lesson_after x m = taught_of x.learner (shown_of x.consist (brake_after x m) m)

-- ---- the answer

-- a record: "the penalty bit is 1 exactly when the cause is not 0"
abbrev pub decided_with : (emergency : Bool) (time state cause stop : ℕ) → Decision
decided_with emergency time state cause stop = record {
  emergency = emergency;
  time = time;
  state = state;
  penalty = not (eqb cause 0);
  cause = cause;
  stop = stop;
}

abbrev pub decision_of : Session → Sample → List ℕ → List ℕ → Decision
decision_of x m p t = decided_with false m.time (state_number (brake_after x m).state) (cause_after x m p t) (prediction x m p t).stop

-- R-5: "A second decision record follows the first with mark 0x45, its penalty bit and cause now meaning emergency, its location the emergency stop."
abbrev pub emergency_decision_of : Session → Sample → List ℕ → List ℕ → Decision
emergency_decision_of x m p t =
    decided_with true m.time (state_number (brake_after x m).state) (emergency_after x m p t) (prediction x m p t).emergency_stop

abbrev pub decisions_of : Session → Sample → List ℕ → List ℕ → List ℕ
decisions_of x m p t = decision.both_bytes (decision_of x m p t) (emergency_decision_of x m p t)

abbrev pub session_after : Session → Sample → List ℕ → List ℕ → Session
session_after x m p t = record {
  opened = true;
  consist = in_force x.consist (lesson_after x m).learnt;
  brake = brake_after x m;
  learner = (lesson_after x m).learner;
  cause = cause_after x m p t;
  emergency = emergency_after x m p t;
}

-- 1 before other lines
abbrev pub open_first : Session → List Rule → List Rule
open_first x lines = (not_open x, NoSession) ∷ lines

-- from 2 on, of this session
abbrev pub lines_of : Session → (s p t out : List ℕ) → List Rule
lines_of x s p t out = let m = sample_in s in lines_open x.consist (wrong_time x.brake m) s p t out

-- the table, as far as a sample call uses it
abbrev pub rules : Session → (s p t out : List ℕ) → List Rule
rules x s p t out = open_first x (lines_of x s p t out)

-- answer, session and every byte of the output: a refused call changes nothing; an accepted one writes both records, 16 bytes, and no other
unfoldable pub sample_call : Session → List ℕ → List ℕ → List ℕ → List ℕ → Answer × List ℕ
sample_call x s p t out =
    let v = lowest (rules x s p t out) in
    let m = sample_in s in
    (answer (kept v (session_after x m p t) x) v, (written v (decisions_of x m p t) out).1)
