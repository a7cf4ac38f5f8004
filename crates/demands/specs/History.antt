-- What the paper says of a call, by the history before it: the samples accepted since the opening, the latest first, each with the profile and
-- the targets lent to it. Then what it does with a run: any list of calls, from nothing on. Definitions only.
use Rattle.std.specs.Prelude.{Bool, true, false, ◌&&◌, not, cond, List, [], ◌∷◌, ◌++◌, ℕ, ◌+◌, leb, eqb}
use Rattle.refusal.specs.Lowest.{Rule, lowest}
use Rattle.refusal.specs.Steps.{kept}
use Rattle.refusal.specs.Written.{written}
use Rattle.refusal.specs.declared.Refusal.TheVariants.{NoSession}
use Rattle.refusal.specs.Verdict.{Verdict, Refused}
use Rattle.consist.specs.declared.Consist.{Consist}
use Rattle.consist.specs.Consist.{consist_in, read_rules}
use Rattle.targets.specs.Targets.{most, speeds_in}
use Rattle.sample.specs.declared.Sample.{Sample}
use Rattle.decision.specs.declared.Decision.{Decision}
use Rattle.decision.specs.Decision.{both_bytes}
use Rattle.brake.specs.declared.Choice.{Choice}
use Rattle.brake.specs.declared.Brake.{Brake}
use Rattle.brake.specs.State.{state_number}
use Rattle.brake.specs.Brake.{at_opening}
use Rattle.update.specs.Rules.{update_of}
use Rattle.learn.specs.declared.Shown.{Shown}
use Rattle.learn.specs.Learn.{Learning, waiting, Lesson, lesson_of}
use Rattle.learn.specs.Suffices.{kept_of}
use Rattle.walk.specs.declared.Prediction.{Prediction}
use Rattle.judge.specs.Approach.{Approach, prediction_of, call_of}
use Rattle.judge.specs.Emergency.{Emergency, emergency_stop, emergency_call_of}
use Rattle.admission.specs.Table.{lines_open}
use Rattle.prediction.specs.Prediction.{approach_of, emergency_of, behind}
use Rattle.session.specs.declared.Session.{Session}
use Rattle.session.specs.Session.{none_open}
use Rattle.sampling.specs.Learning.{shown_of, in_force}
use Rattle.sampling.specs.Sample.{sample_in, decided_with}
use Rattle.sampling.specs.Laws.{Lent}
use Rattle.demands.specs.Machine.{Call, opening, sampling}

-- ---- what a session was opened with

pub record Begun : Type 0 where
  pub consist : Consist
  -- R-7: "the old choice in the opening", or the default
  pub choice : Choice

-- ---- "The air brakes, once a sample", and of R-3 the time in force

-- the consist with the time in force, the air brakes, and how far learning is, with its points
pub record Course : Type 0 where
  pub train : Consist
  pub brake : Brake
  pub learning : Learning

-- what a sample makes of them: the update, then what it teaches; "The learnt time serves from the next sample."
abbrev pub updated : Course → Sample → Brake
updated k m = update_of k.train k.brake m.time m.front m.rear

abbrev pub shown_to : Course → Sample → Shown
shown_to k m = shown_of k.train (updated k m) m

abbrev pub taught : Course → Sample → Lesson
taught k m = lesson_of (shown_to k m) k.learning

abbrev pub coursed : Course → Sample → Course
coursed k m = record { train = in_force k.train (taught k m).1; brake = updated k m; learning = (taught k m).0 }

unfoldable pub course_of : Begun → List Lent → Course
course_of c [] = record { train = c.consist; brake = at_opening c.consist c.choice; learning = waiting }
course_of c (l ∷ h) = coursed (course_of c h) (sample_in l.sample)

abbrev pub train_in : Begun → List Lent → Consist
train_in c h = (course_of c h).train

abbrev pub brakes : Begun → List Lent → Brake
brakes c h = (course_of c h).brake

-- ---- the prediction made of the sample l after the history h

-- "It starts after the update, with A, B and clock t = 0"; "Demands 2 and 3 read with the time in force", before what this sample teaches
abbrev pub approach_at : Begun → List Lent → Lent → Approach
approach_at c h l = approach_of (train_in c h) (brakes c (l ∷ h)) (sample_in l.sample) l.profile

abbrev pub prediction_at : Begun → List Lent → Lent → Prediction
prediction_at c h l = prediction_of (approach_at c h l) (speeds_in l.targets most)

-- the calls of a history, the earliest first: the first target that each prediction calls for the penalty by, 0 for none
unfoldable pub calls_in : Begun → List Lent → List ℕ
calls_in c [] = []
calls_in c (l ∷ h) = calls_in c h ++ call_of (approach_at c h l) l.targets ∷ []

unfoldable pub first_call : List ℕ → ℕ
first_call [] = 0
first_call (n ∷ ns) = cond (eqb n 0) (first_call ns) n

-- "The cause is the first such target and, like the penalty, stays."
abbrev pub cause_in : Begun → List Lent → ℕ
cause_in c h = first_call (calls_in c h)

-- ---- R-5: "From the sample that calls the penalty on, predict a stop by emergency air too"

abbrev pub emergency_at : Begun → List Lent → Lent → Emergency
emergency_at c h l = emergency_of (train_in c h) (brakes c (l ∷ h)) (sample_in l.sample) l.profile

-- the calls of emergency, as those for the penalty; none before a penalty stands
unfoldable pub emergency_calls_in : Begun → List Lent → List ℕ
emergency_calls_in c [] = []
emergency_calls_in c (l ∷ h) = emergency_calls_in c h ++ behind (cause_in c (l ∷ h)) (emergency_call_of (emergency_at c h l) l.targets) ∷ []

-- "Emergency is called .. and it stays called."
abbrev pub emergency_in : Begun → List Lent → ℕ
emergency_in c h = first_call (emergency_calls_in c h)

-- ---- what is decided, and what is refused

-- of the penalty, or of emergency
abbrev pub stands_in : (emergency : Bool) → Begun → List Lent → ℕ
stands_in false c h = cause_in c h
stands_in true c h = emergency_in c h

-- "stopping location"; "its location the emergency stop"
abbrev pub stop_at : (emergency : Bool) → Begun → List Lent → Lent → ℕ
stop_at false c h l = (prediction_at c h l).stop
stop_at true c h l = behind (cause_in c (l ∷ h)) (emergency_stop (emergency_at c h l))

abbrev pub decision_at : (emergency : Bool) → Begun → List Lent → Lent → Decision
decision_at e c h l = decided_with e (sample_in l.sample).time (state_number (brakes c (l ∷ h)).state) (stands_in e c (l ∷ h)) (stop_at e c h l)

-- 9: "time not 1 to 5 seconds after the last accepted sample"; "The session's first sample may have any time and is never refused 9."
abbrev pub wrong_time_after : List Lent → Sample → Bool
wrong_time_after [] m = false
wrong_time_after (l ∷ h) m = let last = (sample_in l.sample).time in not (leb (last + 1) m.time && leb m.time (last + 5))

-- the table, as far as a sample call uses it while a session is open
abbrev pub rules_at : Begun → List Lent → Lent → List Rule
rules_at c h l =
    lines_open (train_in c h) (wrong_time_after h (sample_in l.sample)) l.sample l.profile l.targets l.out

-- ---- a run

-- what stands: nothing, or what a session was opened with and the samples accepted since, the latest first
pub data Standing : Type 0 where
  nothing : Standing
  since : Begun → List Lent → Standing

-- "Opening uses 2, 4 and 5"; 1: "a sample is offered and no session is open"
abbrev pub verdict_at : Standing → Call → Verdict
verdict_at st (opening s choice) = lowest (read_rules s)
verdict_at nothing (sampling l) = Refused NoSession
verdict_at (since c h) (sampling l) = lowest (rules_at c h l)

-- "if refused, an earlier session stays as it was"; accepted, an opening begins a new history, and a sample is added to the one that stands
abbrev pub next : Standing → Call → Standing
next st (opening s choice) = kept (lowest (read_rules s)) (since (record { consist = consist_in s; choice = choice }) []) st
next nothing (sampling l) = nothing
next (since c h) (sampling l) = kept (lowest (rules_at c h l)) (since c (l ∷ h)) (since c h)

-- unchanged where refused; otherwise both records, and no other byte
abbrev pub out_at : Standing → Call → List ℕ
out_at st (opening s choice) = []
out_at nothing (sampling l) = l.out
out_at (since c h) (sampling l) = (written (lowest (rules_at c h l)) (both_bytes (decision_at false c h l) (decision_at true c h l)) l.out).1

-- the session that holds what stands: the consist with the time in force, the air brakes, what is kept of learning, and the two causes after the history
abbrev pub session_at : Standing → Session
session_at nothing = none_open
session_at (since c h) = record {
  opened = true;
  consist = train_in c h;
  brake = brakes c h;
  learner = kept_of (course_of c h).learning;
  cause = cause_in c h;
  emergency = emergency_in c h;
}

-- what stands after calls
unfoldable pub standing_after : Standing → List Call → Standing
standing_after st [] = st
standing_after st (k ∷ ks) = standing_after (next st k) ks

-- the verdict and the output of each call
unfoldable pub paper_from : Standing → List Call → List (Verdict × List ℕ)
paper_from st [] = []
paper_from st (k ∷ ks) = (verdict_at st k, out_at st k) ∷ paper_from (next st k) ks
