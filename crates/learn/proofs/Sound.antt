-- What is kept stays sound, and what is learnt is inside the consist's range, as the line's result is. Assumes nothing.
use mathlib.Core.Path.{◌≡◌}
use Prim.Native.Nat.{ℕ, ◌-◌, ◌≤◌, ◌<◌}
use native.Mathlib.Omega.{arith}
use lib.Dec.{leb, ltb}
use borrow.Author.Tests.{leb-false}
use Rattle.sample.specs.declared.RearPressure.{RearPressure}
use Rattle.sample.specs.declared.RearPressure.TheVariants.{Present, Lost}
use Rattle.trend.specs.Result.{Learnt, Nothing, Time}
use Rattle.trend.specs.Points.{no_sums}
use Rattle.trend.specs.Sound.{most, most_seconds, most_pressure}
use Rattle.trend.specs.Falling.{ResultInRange}
use Rattle.trend.proofs.Ranges.{result_in_range}
use Rattle.learn.specs.declared.Stage.{Stage}
use Rattle.learn.specs.declared.Stage.TheVariants.{Waiting, FrontFell, Initial, Falling, Done}
use Rattle.learn.specs.declared.Learner.{Learner}
use Rattle.learn.specs.declared.Shown.{Shown}
use Rattle.learn.specs.declared.Lesson.{Lesson}
use Rattle.learn.specs.Stage.{bare}
use Rattle.learn.specs.Sound.{Sound, most_time}
use Rattle.learn.specs.Learn.{is_front_down, timer, is_over, is_rear_down}
use Rattle.learn.specs.Kept.{is_complete, added_to, further_to, first_to, heard_in, rear_to, timed_to, started_by, in_stage, taught_of}
use Rattle.learn.specs.Suffices.{RearWithin, StaysSound, LearntInRange}
use Rattle.learn.proofs.Choices.{either}
use Rattle.learn.proofs.Rooms.{none_sound, point_sound}

-- ---- what is kept

abbrev Kept : Lesson → Type 0
Kept x = Sound x.learner

bare_sound : (stage : Stage) → Sound (bare stage)
bare_sound stage = record { since = omega arith; init = omega arith; last = omega arith; pressure = omega arith; sums = none_sound }

module _ (l : Learner) (s : Shown) (h : Sound l) (time : s.time ≤ most_time) where
  added_sound : (t p : ℕ) → l.sums.count < most → t ≤ most_seconds → p ≤ most_pressure → Kept (added_to l s t p)
  unfolding added_to
  added_sound t p room timely within =
      either Kept (is_complete l t p) (λ _. bare_sound Done)
      (λ _. record { since = h.since; init = h.init; last = timely; pressure = within; sums = point_sound l.sums t p h.sums room timely within })

  module _ (timely : timer s l.since < 600) (p : ℕ) (within : p ≤ most_pressure) where
    further_sound : Kept (further_to l s p)
    unfolding further_to
    further_sound =
        either Kept (ltb p l.pressure)
        (λ _. either Kept (leb most l.sums.count) (λ _. bare_sound Done) (λ room. added_sound _ p (leb-false _ _ room) (omega arith) within)) (λ _. h)

    first_sound : Kept (first_to l s p)
    unfolding first_to
    first_sound =
        either Sound (is_rear_down p l.pressure)
        (λ _. record { since = h.since; init = omega arith; last = omega arith; pressure = within; sums = point_sound no_sums 0 p none_sound (omega arith) (omega arith) within })
        (λ _. h)

    heard_sound : (stage : Stage) → Kept (heard_in stage l s p)
    unfolding heard_in
    heard_sound Waiting = h
    heard_sound FrontFell = record { since = h.since; init = omega arith; last = omega arith; pressure = within; sums = none_sound }
    heard_sound Initial = first_sound
    heard_sound Falling = further_sound
    heard_sound Done = h

  rear_sound : (rear : RearPressure) → RearWithin rear → timer s l.since < 600 → Kept (rear_to l s rear)
  rear_sound (Present p) within timely = heard_sound timely p within l.stage
  rear_sound Lost within timely = h

  started_sound : (rear : RearPressure) → RearWithin rear → Sound (started_by s rear)
  unfolding started_by
  started_sound (Present p) within = record { since = time; init = omega arith; last = omega arith; pressure = within; sums = none_sound }
  started_sound Lost within = record { since = time; init = omega arith; last = omega arith; pressure = omega arith; sums = none_sound }

  module _ (within : RearWithin s.rear) where
    timed_sound : Kept (timed_to l s)
    unfolding timed_to
    timed_sound = either Kept (is_over s l.since) (λ _. bare_sound Done) (λ timely. rear_sound s.rear within (leb-false _ _ timely))

    stage_sound : (stage : Stage) → Kept (in_stage stage l s)
    unfolding in_stage
    stage_sound Waiting = either Sound (is_front_down s) (λ _. started_sound s.rear within) (λ _. bare_sound Waiting)
    stage_sound FrontFell = timed_sound
    stage_sound Initial = timed_sound
    stage_sound Falling = timed_sound
    stage_sound Done = either Sound (is_front_down s) (λ _. bare_sound Done) (λ _. bare_sound Waiting)

pub stays_sound : StaysSound
unfolding StaysSound taught_of
stays_sound l s h time within = either Kept s.service (λ _. stage_sound l s h time within l.stage) (λ _. bare_sound Waiting)

-- ---- what is learnt

abbrev InRange : Learnt → Type 0
InRange x = (ms : ℕ) → x ≡ Time ms → (1000 ≤ ms) × (ms ≤ 240000)

abbrev Held : Lesson → Type 0
Held x = InRange x.learnt

nothing_held : InRange Nothing
nothing_held ms e = let z : ◌≡◌ {A = ℕ} 0 1 = cc in absurd (omega arith)

module _ (l : Learner) (s : Shown) where
  added_held : (t p : ℕ) → Held (added_to l s t p)
  unfolding added_to ResultInRange
  added_held t p = either Held (is_complete l t p) (λ _ ms e. result_in_range l.init s.equalization p ms l.sums e) (λ _. nothing_held)

  heard_held : (stage : Stage) (p : ℕ) → Held (heard_in stage l s p)
  unfolding heard_in further_to first_to
  heard_held Waiting p = nothing_held
  heard_held FrontFell p = nothing_held
  heard_held Initial p = nothing_held
  heard_held Falling p =
      either Held (ltb p l.pressure)
      (λ _. either Held (leb most l.sums.count) (λ _. nothing_held) (λ _. added_held (timer s l.since - l.init) p)) (λ _. nothing_held)
  heard_held Done p = nothing_held

  rear_held : (rear : RearPressure) → Held (rear_to l s rear)
  rear_held (Present p) = heard_held l.stage p
  rear_held Lost = nothing_held

  timed_held : Held (timed_to l s)
  unfolding timed_to
  timed_held = either Held (is_over s l.since) (λ _. nothing_held) (λ _. rear_held s.rear)

  stage_held : (stage : Stage) → Held (in_stage stage l s)
  unfolding in_stage
  stage_held Waiting = nothing_held
  stage_held FrontFell = timed_held
  stage_held Initial = timed_held
  stage_held Falling = timed_held
  stage_held Done = nothing_held

pub learnt_in_range : LearntInRange
unfolding LearntInRange taught_of
learnt_in_range l s = either Held s.service (λ _. stage_held l s l.stage) (λ _. nothing_held)
