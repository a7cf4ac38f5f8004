-- "For an answer that is an enum, a definition provides this paper's number and values for each of the enum's cases. The promises use this definition."
-- Different answers are told differently, so that a promise of what is told leaves no second answer. A statement; proofs/Told.antt proves it.
use Rattle.std.specs.Prelude.{◌≡◌}
use Rattle.refusal.specs.Verdict.{Verdict}
use Rattle.refusal.specs.Number.{number_of, number_of_verdict, told}
use Rattle.hundredths.specs.Reading.{reading_told}
use Rattle.sample.specs.Sample.{rear_told, raw_told, pressure_told, sample_told, judged_told, answer_told as raw_answer_told}
use Rattle.brake.specs.State.{state_number}
use Rattle.brake.specs.Rear.{choice_number, heard_number}
use Rattle.brake.specs.Brake.{brake_told}
use Rattle.trend.specs.Result.{learnt_number}
use Rattle.learn.specs.Stage.{stage_number, learner_told}
use Rattle.session.specs.Session.{session_told, answer_told, call_told}
use Rattle.held.specs.Held.{read_told}

abbrev pub Apart : {A B : Type 0} → (A → B) → Type 0
Apart {A} tell = (x y : A) → tell x ≡ tell y → x ≡ y

pub record ToldApart : Type 1 where
  -- each enum that a public function answers, or that an answer holds
  pub refusal : Apart number_of
  pub verdict : Apart number_of_verdict
  pub reading : Apart reading_told
  pub rear : Apart rear_told
  pub pressure : Apart pressure_told
  pub state : Apart state_number
  pub choice : Apart choice_number
  pub heard : Apart heard_number
  pub learnt : Apart learnt_number
  pub stage : Apart stage_number
  -- each value that holds one
  pub raw : Apart raw_told
  pub sample : Apart sample_told
  pub brake : Apart brake_told
  pub learner : Apart learner_told
  pub session : Apart session_told
  -- each answer: a verdict and a value, and of a sample call the lent output
  pub answer : {A : Type 0} → Apart {A = Verdict × A} told
  pub sample_answer : Apart raw_answer_told
  pub sample_judged : Apart judged_told
  pub session_answer : Apart answer_told
  pub session_call : Apart call_told
  pub held_answer : Apart read_told
