-- The points of a run fall, and where they are complete there always is a result, as there is of points that fall. Assumes nothing.
use mathlib.Core.Path.{◌≡◌, refl, ap}
use mathlib.Core.Bool.{Bool, true, false, cond, false≢true}
use mathlib.Core.List.{List, [], ◌∷◌}
use Prim.Native.Nat.{ℕ, ◌-◌, ◌<◌}
use native.Mathlib.Omega.{arith}
use lib.Dec.{T, leb, ltb}
use lib.ListN.{length}
use lib.IntN.{pos}
use lib.Signed.{lt_z, ◌<ℤ◌}
use borrow.Author.Tests.{ltb-true, lt-ltb, lt-leb}
use Rattle.sample.specs.declared.RearPressure.{RearPressure}
use Rattle.sample.specs.declared.RearPressure.TheVariants.{Present, Lost}
use Rattle.trend.specs.declared.Sums.{Sums}
use Rattle.trend.specs.Result.{Learnt, Nothing, Time}
use Rattle.trend.specs.Points.{Point, sums_of}
use Rattle.trend.specs.Result.{dividend, divisor, time_of, result_of}
use Rattle.trend.specs.Sound.{most}
use Rattle.trend.specs.Falling.{Falls, FallingPoints}
use Rattle.trend.proofs.Falling.{falling_points}
use Rattle.learn.specs.declared.Shown.{Shown}
use Rattle.learn.specs.Learn.{Learning, Lesson, waiting, front_fell, initial, falling, done, is_front_down, timer, is_over, is_rear_down, is_complete, further, first, heard, rear_of, timed, started, in_service, lesson_of}
use Rattle.learn.specs.Suffices.{FallsTo, FallsOn, AlwaysLearns}
use Rattle.learn.proofs.Choices.{either}

-- ---- from sample to later sample

module _ (s : Shown) (time : ℕ) (later : time < s.time) where
  -- what is so at a time is so later
  stays : (l : Learning) → FallsTo time l → FallsTo s.time l
  stays waiting h = h
  stays (front_fell since) h = omega arith
  stays (initial since p0) h = omega arith
  stays (falling since init last before) h = (omega arith, h.1)
  stays done h = h

  abbrev After : Lesson → Type 0
  After x = FallsTo s.time x.0

  further_falls : (since init : ℕ) (last : Point) (before : List Point) (p : ℕ) → FallsTo time (falling since init last before)
      → After (further s since init last before p)
  unfolding Falls
  further_falls since init last before p h =
      either After (ltb p last.p)
      (λ lower.
      either After (leb most (length (last ∷ before))) (λ _. tt)
      (λ _. either After (is_complete (record { t = timer s since - init; p = p }) last before) (λ _. tt) (λ _. (omega arith, (omega arith, ltb-true _ _ lower, h.1)))))
      (λ _. stays (falling since init last before) h)

  first_falls : (since p0 p : ℕ) → FallsTo time (initial since p0) → After (first s since p0 p)
  unfolding Falls
  first_falls since p0 p h = either (FallsTo s.time) (is_rear_down p p0) (λ _. (omega arith, tt)) (λ _. stays (initial since p0) h)

  heard_falls : (l : Learning) (p : ℕ) → FallsTo time l → After (heard s l p)
  heard_falls waiting p h = h
  heard_falls (front_fell since) p h = stays (front_fell since) h
  heard_falls (initial since p0) p h = first_falls since p0 p h
  heard_falls (falling since init last before) p h = further_falls since init last before p h
  heard_falls done p h = h

  rear_falls : (l : Learning) (rear : RearPressure) → FallsTo time l → After (rear_of s l rear)
  rear_falls l (Present p) h = heard_falls l p h
  rear_falls l Lost h = stays l h

  timed_falls : (l : Learning) (since : ℕ) → FallsTo time l → After (timed s l since)
  timed_falls l since h = either After (is_over s since) (λ _. tt) (λ _. rear_falls l s.rear h)

  started_falls : (rear : RearPressure) → FallsTo s.time (started s rear)
  started_falls (Present p) = omega arith
  started_falls Lost = omega arith

  service_falls : (l : Learning) → FallsTo time l → After (in_service s l)
  service_falls waiting h = either (FallsTo s.time) (is_front_down s) (λ _. started_falls s.rear) (λ _. tt)
  service_falls (front_fell since) h = timed_falls (front_fell since) since h
  service_falls (initial since p0) h = timed_falls (initial since p0) since h
  service_falls (falling since init last before) h = timed_falls (falling since init last before) since h
  service_falls done h = either (FallsTo s.time) (is_front_down s) (λ _. tt) (λ _. tt)

pub falls_on : FallsOn
unfolding FallsOn lesson_of
falls_on s time l later h = either (After s time later) s.service (λ _. service_falls s time later l h) (λ _. tt)

-- ---- a result

true_of : (b : Bool) → T b → b ≡ true
true_of true t = refl
true_of false t = absurd t

-- of a final slope that falls
slope_gives : (init equ p : ℕ) (s : Sums) → pos 0 <ℤ divisor equ p s → (ms : ℕ) × (result_of init equ p s ≡ Time ms)
unfolding result_of
slope_gives init equ p s h =
    let y = divisor equ p s in
    let ms = time_of init (dividend equ s) y in
    (ms, ap (λ (b : Bool). cond b (Time ms) Nothing) (true_of (lt_z (pos 0) y) h.lt))

points_give : (init equ p : ℕ) (x last : Point) (before : List Point) → Falls (last ∷ before) → is_complete x last before ≡ true
    → (ms : ℕ) × (result_of init equ p (sums_of (last ∷ before)) ≡ Time ms)
unfolding FallingPoints
points_give init equ p x last [] h complete = absurd (false≢true complete)
points_give init equ p x last (y ∷ ys) h complete = slope_gives init equ p (sums_of (last ∷ y ∷ ys)) (falling_points equ p last y ys h)

pub always_learns : AlwaysLearns
unfolding AlwaysLearns lesson_of
always_learns s time since init p last before later h c =
    let x : Point = record { t = timer s since - init; p = p } in
    let (ms, e) = points_give init s.equalization p x last before h.1 c.complete in
    (ms, rw (c.service, lt-leb 600 (timer s since) c.timely, c.rear, lt-ltb p last.p c.lower, lt-leb most (length (last ∷ before)) c.room, c.complete) (ap (λ (r : Learnt). (done, r)) e))
