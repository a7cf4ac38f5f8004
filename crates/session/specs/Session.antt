-- What a session holds, when it is open, and how a session and an answer are told. Definitions only.
use Rattle.std.specs.Prelude.{Bool, false, not, ◌&&◌, ◌||◌, List, ℕ, leb, eqb}
use Rattle.refusal.specs.Number.{told}
use Rattle.refusal.specs.declared.Refusal.{Refusal}
use Rattle.refusal.specs.Verdict.{Verdict, Refused}
use Rattle.consist.specs.declared.Consist.{Consist}
use Rattle.consist.specs.Consist as consist
use Rattle.targets.specs.Targets as targets
use Rattle.brake.specs.declared.Choice.TheVariants.{FiveSeconds}
use Rattle.brake.specs.Brake.{brake_told, at_opening, is_at_opening}
use Rattle.brake.specs.Sound as brake
use Rattle.learn.specs.Stage as learn
use Rattle.learn.specs.Stage.{learner_told}
use Rattle.learn.specs.Sound as learner
use Rattle.session.specs.declared.Session.{Session}

-- ---- "a session is open"

-- what a session is that has taken no sample: brake and learner of an opening, and no cause of penalty or emergency
abbrev pub is_fresh : Session → Bool
is_fresh x = is_at_opening x.consist x.brake && learn.is_at_opening x.learner && eqb x.cause 0 && eqb x.emergency 0

-- "Emergency behind the penalty": none stands without a penalty
abbrev pub is_behind : Session → Bool
is_behind x = eqb x.emergency 0 || not (eqb x.cause 0)

-- every value that an opening or an accepted sample hands back passes this test; what fails it is no open session
unfoldable pub is_open : Session → Bool
is_open x =
    x.opened
    && consist.is_sound x.consist
    && brake.is_sound x.consist x.brake
    && learner.is_sound x.learner
    && leb x.cause targets.most
    && leb x.emergency targets.most
    && is_behind x
    && (x.brake.sampled || is_fresh x)

-- the value before any opening
abbrev pub none_open : Session
none_open = record {
  opened = false;
  consist = consist.none;
  brake = at_opening consist.none FiveSeconds;
  learner = learn.at_opening;
  cause = 0;
  emergency = 0;
}

-- what a call hands back: the session from now on, and what it has to say
pub record Answer : Type 0 where
  pub session : Session
  pub verdict : Verdict

abbrev pub answer : Session → Verdict → Answer
answer x v = record { session = x; verdict = v }

-- of a refused one: "an earlier session stays as it was"
abbrev pub refused_with : Session → Refusal → Answer
refused_with x r = answer x (Refused r)

-- ---- the paper's number and values

-- opened or not, the consist, what the air brakes hold, what is kept of learning, the penalty's cause, the emergency's
abbrev pub Told : Type 0
Told = Bool × Consist × List ℕ × List ℕ × ℕ × ℕ

abbrev pub session_told : Session → Told
session_told x = (x.opened, x.consist, brake_told x.brake, learner_told x.learner, x.cause, x.emergency)

-- of an answer, the number of its verdict and the session
abbrev pub answer_told : Answer → ℕ × Told
answer_told a = told (a.verdict, session_told a.session)

-- of a sample call, the answer and the lent output
abbrev pub call_told : Answer × List ℕ → (ℕ × Told) × List ℕ
call_told c = (answer_told c.0, c.1)
