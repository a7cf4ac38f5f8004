-- What is told of a session, of an answer and of a sample call tells them: no two are told alike. Assumes nothing.
use mathlib.Core.Path.{◌≡◌, ap₂}
use mathlib.Core.List.{List}
use Prim.Native.Nat.{ℕ}
use Rattle.refusal.proofs.Numbers.{told_one}
use Rattle.brake.proofs.Told.{brake_one}
use Rattle.learn.proofs.Stages.{learner_one}
use Rattle.session.specs.declared.Session.{Session}
use Rattle.session.specs.Session.{Answer, session_told, answer, answer_told, call_told}

pub session_one : (x y : Session) → session_told x ≡ session_told y → x ≡ y
session_one x y h =
    let brakes = brake_one x.brake y.brake (λ i. (h i).2) in
    let learners = learner_one x.learner y.learner (λ i. (h i).3) in
    λ i. record { opened = (h i).0; consist = (h i).1; brake = brakes i; learner = learners i; cause = (h i).4; emergency = (h i).5 }

pub answer_one : (x y : Answer) → answer_told x ≡ answer_told y → x ≡ y
answer_one x y h =
    let e = told_one (x.verdict, session_told x.session) (y.verdict, session_told y.session) h in
    ap₂ answer (session_one x.session y.session (λ i. (e i).1)) (λ i. (e i).0)

pub call_one : (x y : Answer × List ℕ) → call_told x ≡ call_told y → x ≡ y
call_one x y h = ap₂ (λ (a : Answer) (out : List ℕ). (a, out)) (answer_one x.0 y.0 (λ i. (h i).0)) (λ i. (h i).1)
