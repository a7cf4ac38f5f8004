-- One pair of calls of two trips: what the pressures make is the same, and demand 3's comparison carries the second over to the first. Assumes nothing.
use mathlib.Core.Path.{◌≡◌, refl, sym, ap, subst}
use mathlib.Core.Bool.{false}
use mathlib.Core.List.{List}
use Prim.Native.Nat.{ℕ, zero, suc, ◌≤◌, ◌<◌}
use native.Mathlib.Nat.{le_refl}
use native.Mathlib.Omega.{arith}
use Rattle.consist.specs.declared.Consist.{Consist}
use Rattle.targets.specs.Targets.{most, speeds_in}
use Rattle.sample.specs.declared.Sample.{Sample}
use Rattle.brake.specs.declared.Brake.{Brake}
use Rattle.brake.specs.State.{state_number}
use Rattle.update.specs.Rules.{update_of}
use Rattle.learn.specs.declared.Lesson.{Lesson}
use Rattle.learn.specs.Kept.{taught_of}
use Rattle.track.specs.Track.{lay_of}
use Rattle.judge.specs.Judge.{standing}
use Rattle.judge.specs.Approach.{prediction_of, call_of}
use Rattle.laws.specs.Approaches.{Worse, AsCautious, Compared}
use Rattle.laws.proofs.Approaches.{compared}
use Rattle.prediction.specs.Steps.{Ready}
use Rattle.session.specs.declared.Session.{Session}
use Rattle.sampling.specs.Learning.{is_service, in_force}
use Rattle.sampling.specs.Sample.{sample_in, brake_after, approach, lesson_after, cause_after, session_after}
use Rattle.sampling.specs.Laws.{Lent}
use Rattle.sampling.proofs.Laws.{standing_stays}
use Rattle.trips.specs.Trips.{Faster, InHundredths, Beside, NoLater}
use Rattle.demands.proofs.Machine.{decision_by, not-zero, is_not_zero, own_call, some_cause}

-- two sessions that only the causes tell apart, and the second's stands only where the first's does
pub record Same (x y : Session) : Type 0 where
  pub consist : x.consist ≡ y.consist
  pub brake : x.brake ≡ y.brake
  pub learner : x.learner ≡ y.learner
  pub cause : 0 < y.cause → 0 < x.cause

-- what stands stood, or is called
by_standing : {A : Type 0} (stood called : ℕ) → 0 < standing stood called → (0 < stood → A) → (0 < called → A) → A
by_standing zero called h f g = g (own_call zero called refl h)
by_standing (suc n) called h f g = f (omega arith)

stood_stands : (stood called : ℕ) → 0 < stood → 0 < standing stood called
stood_stands stood called h = subst (λ (n : ℕ). 0 < n) (sym (standing_stays stood called h)) h

-- ---- one pair of calls

module _ (x y : Session) (same : Same x y) (l l' : Lent) (beside : Beside InHundredths l l') where
  abbrev m : Sample
  m = sample_in l.sample

  abbrev n : Sample
  n = sample_in l'.sample

  abbrev f : Faster m n
  f = beside.sample

  -- "as no pressure rule reads the speed"
  brakes_same : brake_after x m ≡ brake_after y n
  brakes_same i = update_of (same.consist i) (same.brake i) (f.time i) (f.front i) (f.rear i)

  lessons_same : lesson_after x m ≡ lesson_after y n
  lessons_same i = taught_of (same.learner i) (record {
    service = is_service (brakes_same i).state;
    set = (same.consist i).set;
    equalization = (brakes_same i).equalization;
    time = f.time i;
    front = f.front i;
    rear = f.rear i;
  })

  worse : Worse (approach x m l.profile) (approach y n l'.profile)
  worse = record {
    speed = f.speed;
    rated = subst (λ (c : Consist). x.consist.rated ≤ c.rated) same.consist (le_refl _);
    application = subst (λ (c : Consist). c.application ≤ x.consist.application) same.consist (le_refl _);
    offset = subst (λ (c : Consist). c.offset ≤ x.consist.offset) same.consist (le_refl _);
    cars = ap (λ (c : Consist). c.cars) same.consist;
    axles = ap (λ (c : Consist). c.axles) same.consist;
    weight = ap (λ (c : Consist). c.weight) same.consist;
    length = ap (λ (c : Consist). c.length) same.consist;
    blocks = ap (λ (c : Consist). c.blocks) same.consist;
    set = ap (λ (c : Consist). c.set) same.consist;
    a = ap (λ (k : Brake). k.a) brakes_same;
    b = ap (λ (k : Brake). k.b) brakes_same;
    track = ap lay_of beside.profile;
    head = f.head;
  }

  module _ (ready : Ready x.consist x.brake m l.profile) (ready' : Ready y.consist y.brake n l'.profile) where
    cautious : AsCautious (approach x m l.profile) (approach y n l'.profile)
    unfolding Compared
    cautious = compared _ _ ready.consist ready'.consist ready.head worse

    -- a cause of the second, which stood or is called, is one of the first
    causes : 0 < cause_after y n l'.profile l'.targets → 0 < cause_after x m l.profile l.targets
    unfolding cause_after
    causes h =
        by_standing y.cause _ h (λ stood. stood_stands x.cause _ (same.cause stood))
        (λ called. some_cause x.cause _ (cautious.called l.targets (subst (λ (t : List ℕ). 0 < call_of (approach y n l'.profile) t) (sym beside.targets) called)))

    pub next_same : Same (session_after x m l.profile l.targets) (session_after y n l'.profile l'.targets)
    next_same = record {
      consist = λ i. in_force (same.consist i) (lessons_same i).learnt;
      brake = brakes_same;
      learner = ap (λ (r : Lesson). r.learner) lessons_same;
      cause = causes;
    }

    pub no_later : NoLater (decision_by x l false) (decision_by y l' false)
    no_later = record {
      state = ap (λ (k : Brake). state_number k.state) brakes_same;
      penalty = λ h. is_not_zero _ (causes (not-zero _ h));
      stop =
          subst (λ (t : List ℕ). (prediction_of (approach y n l'.profile) (speeds_in t most)).stop ≤ (prediction_of (approach x m l.profile) (speeds_in l.targets most)).stop)
          beside.targets (cautious.stop (speeds_in l.targets most));
    }
