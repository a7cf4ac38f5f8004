-- Different answers are told differently, as each crate shows of its own. Assumes nothing.
use Rattle.refusal.proofs.Exactly.{number_tells}
use Rattle.refusal.proofs.Numbers.{verdict_one, told_one}
use Rattle.hundredths.proofs.Told.{reading_one}
use Rattle.sample.proofs.Told as sample
use Rattle.brake.proofs.Rear.{choice_one, heard_one}
use Rattle.brake.proofs.Told.{state_one, brake_one}
use Rattle.trend.proofs.Told.{learnt_one}
use Rattle.learn.proofs.Stages.{stage_one, learner_one}
use Rattle.session.proofs.Told as session
use Rattle.held.proofs.Answers.{read_tells}
use Rattle.demands.specs.Told.{ToldApart}

pub told_apart : ToldApart
told_apart = record {
  refusal = number_tells;
  verdict = verdict_one;
  reading = reading_one;
  rear = sample.rear_one;
  pressure = sample.pressure_one;
  state = state_one;
  choice = choice_one;
  heard = heard_one;
  learnt = learnt_one;
  stage = stage_one;
  raw = sample.raw_one;
  sample = sample.sample_one;
  brake = brake_one;
  learner = learner_one;
  session = session.session_one;
  answer = told_one;
  sample_answer = sample.answer_one;
  sample_judged = sample.judged_one;
  session_answer = session.answer_one;
  session_call = session.call_one;
  held_answer = read_tells;
}
