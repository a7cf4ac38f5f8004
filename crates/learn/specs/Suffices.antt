-- The sums suffice, point by point; what is kept stays sound; and points that fall, as those of a run do, always give a result.
-- Statements; proofs/{Suffices,Sound,Falls}.antt prove them.
use Rattle.std.specs.Prelude.{◌≡◌, true, List, ◌∷◌, ℕ, ◌+◌, ◌-◌, ◌≤◌, ◌<◌, length}
use Rattle.sample.specs.declared.RearPressure.{RearPressure}
use Rattle.sample.specs.declared.RearPressure.TheVariants.{Present, Lost}
use Rattle.trend.specs.Result.{Time}
use Rattle.trend.specs.Points.{Point, sums_of}
use Rattle.trend.specs.Sound.{most, most_pressure}
use Rattle.trend.specs.Falling.{Falls}
use Rattle.learn.specs.declared.Stage.TheVariants.{Waiting, Done}
use Rattle.learn.specs.declared.Learner.{Learner}
use Rattle.learn.specs.declared.Shown.{Shown}
use Rattle.learn.specs.Stage.{bare}
use Rattle.learn.specs.Sound.{Sound, most_time}
use Rattle.learn.specs.Learn.{Learning, waiting, front_fell, initial, falling, done, timer, is_complete, lesson_of}
use Rattle.learn.specs.Kept.{lesson, kept_fell, kept_initial, kept_falling, taught_of}

-- what is kept of the points
abbrev pub kept_of : Learning → Learner
kept_of waiting = bare Waiting
kept_of (front_fell since) = kept_fell since
kept_of (initial since p0) = kept_initial since p0
kept_of (falling since init last before) = kept_falling since init last.t last.p (sums_of (last ∷ before))
kept_of done = bare Done

-- "the code keeps sums, and a law says that they suffice, point by point"
unfoldable pub Suffices : Type 0
Suffices = (s : Shown) (l : Learning) → taught_of (kept_of l) s ≡ lesson (kept_of (lesson_of s l).0) (lesson_of s l).1

-- ---- what is kept stays sound, and what is learnt is inside the consist's range

abbrev pub RearWithin : RearPressure → Type 0
RearWithin (Present p) = p ≤ most_pressure
RearWithin Lost = Unit {0}

unfoldable pub StaysSound : Type 0
StaysSound = (l : Learner) (s : Shown) → Sound l → s.time ≤ most_time → RearWithin s.rear → Sound (taught_of l s).learner

unfoldable pub LearntInRange : Type 0
LearntInRange = (l : Learner) (s : Shown) (ms : ℕ) → (taught_of l s).learnt ≡ Time ms → (1000 ≤ ms) × (ms ≤ 240000)

-- ---- the points of a run fall

-- as after a sample at this time: the front fell no later, and the last point is no later
abbrev pub FallsTo : ℕ → Learning → Type 0
FallsTo time waiting = Unit {0}
FallsTo time (front_fell since) = since ≤ time
FallsTo time (initial since p0) = since ≤ time
FallsTo time (falling since init last before) = (since + init + last.t ≤ time) × Falls (last ∷ before)
FallsTo time done = Unit {0}

-- from sample to later sample
unfoldable pub FallsOn : Type 0
FallsOn = (s : Shown) (time : ℕ) (l : Learning) → time < s.time → FallsTo time l → FallsTo s.time (lesson_of s l).0

-- ---- a result

-- (10) comes to its end: the rear fell further, in time, there is room for the point, and with it the fall levels off
pub record Completes (s : Shown) (since init : ℕ) (last : Point) (before : List Point) (p : ℕ) : Type 0 where
  pub service : s.service ≡ true
  pub timely : timer s since < 600
  pub rear : s.rear ≡ Present p
  pub lower : p < last.p
  pub room : length (last ∷ before) < most
  pub complete : is_complete (record { t = timer s since - init; p = p }) last before ≡ true

-- then a run always learns
unfoldable pub AlwaysLearns : Type 0
AlwaysLearns =
    (s : Shown) (time since init p : ℕ) (last : Point) (before : List Point)
    → time < s.time → FallsTo time (falling since init last before) → Completes s since init last before p
    → (ms : ℕ) × (lesson_of s (falling since init last before) ≡ (done, Time ms))
