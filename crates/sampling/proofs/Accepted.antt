-- What an admitted sample makes of the session, put together from its steps. Assumes nothing.
use mathlib.Core.Path.{◌≡◌, ap, ◌∙◌}
use mathlib.Core.Bool.{true, false}
use mathlib.Core.List.{List}
use Prim.Native.Nat.{ℕ}
use native.Mathlib.Omega.{arith}
use Rattle.sample.specs.declared.Sample.{Sample}
use Rattle.sample.specs.declared.RearPressure.{RearPressure}
use Rattle.sample.specs.declared.RearPressure.TheVariants.{Present, Lost}
use Rattle.sample.specs.Bounds.{RearBounded}
use Rattle.decision.specs.declared.Decision.{Decision}
use Rattle.consist.specs.declared.Consist.{Consist}
use Rattle.brake.specs.declared.Brake.{Brake}
use Rattle.brake.specs.State.{state_number}
use Rattle.judge.specs.Judge.{standing}
use Rattle.update.specs.Sound.{RearMost}
use Rattle.update.proofs.Sound.{updated_sound}
use Rattle.learn.specs.declared.Lesson.{Lesson}
use Rattle.learn.specs.Kept.{taught_of}
use Rattle.prediction.specs.declared.Outcome.{Outcome}
use Rattle.prediction.specs.Prediction.{approach_of, emergency_of, outcome_of}
use Rattle.prediction.specs.Steps.{Ready}
use Rattle.session.specs.declared.Session.{Session}
use Rattle.sampling.specs.declared.After.{After}
use Rattle.sampling.specs.Learning.{shown_of, in_force}
use Rattle.sampling.specs.Sample.{brake_after, prediction, cause_after, emergency_after, lesson_after, decided_with}
use Rattle.sampling.specs.Steps.{after_of}

rear_most : (r : RearPressure) → RearBounded r → RearMost r
rear_most (Present p) h = h
rear_most Lost h = tt

-- the update leaves it so
pub predictable : (x : Session) (m : Sample) (p : List ℕ) → Ready x.consist x.brake m p → Ready x.consist (brake_after x m) m p
predictable x m p h = record {
  consist = h.consist;
  brake =
      updated_sound x.consist x.brake m.time m.front m.rear (record { consist = h.consist; brake = h.brake })
      (record { time_most = omega arith; front_most = h.sample.front; rear_most = rear_most m.rear h.sample.rear });
  sample = h.sample;
  track = h.track;
  head = h.head;
}

pub after_is : (x : Session) (m : Sample) (p t : List ℕ) (k : Brake) (f : Outcome) (cause called state : ℕ) (d e : Decision) (g : Lesson) (c : Consist)
    → k ≡ brake_after x m
    → f ≡ outcome_of (approach_of x.consist k m p) (emergency_of x.consist k m p) x.cause t
    → cause ≡ standing x.cause f.called
    → called ≡ standing x.emergency f.emergency_called
    → state ≡ state_number k.state
    → d ≡ decided_with false m.time state cause f.stop
    → e ≡ decided_with true m.time state called f.emergency_stop
    → g ≡ taught_of x.learner (shown_of x.consist k m)
    → c ≡ in_force x.consist g.learnt
    → ◌≡◌ {A = After} (record {
      session = record { opened = true; consist = c; brake = k; learner = g.learner; cause = cause; emergency = called };
      decision = d;
      emergency = e;
    }) (after_of x m p t)
unfolding cause_after emergency_after
after_is x m p t k f cause called state d e g c hk hf hs hc hn hd he hg hl =
    let found : f ≡ prediction x m p t =
    hf ∙ ap (λ (b : Brake). outcome_of (approach_of x.consist b m p) (emergency_of x.consist b m p) x.cause t) hk in
    let stands : cause ≡ cause_after x m p t = hs ∙ ap (λ (g : Outcome). standing x.cause g.called) found in
    let stays : called ≡ emergency_after x m p t = hc ∙ ap (λ (g : Outcome). standing x.emergency g.emergency_called) found in
    let number : state ≡ state_number (brake_after x m).state = hn ∙ ap (λ (b : Brake). state_number b.state) hk in
    let taught : g ≡ lesson_after x m = hg ∙ ap (λ (b : Brake). taught_of x.learner (shown_of x.consist b m)) hk in
    rw (hl, hd, he, hk, number, stands, stays, found, taught)
