-- The same over what is kept: of the points their sums, the last one's t and p. Definitions only; specs/Suffices.antt says that these suffice.
use Rattle.std.specs.Prelude.{ℕ, ◌-◌, Bool, ◌&&◌, cond, leb, ltb}
use Rattle.sample.specs.declared.RearPressure.{RearPressure}
use Rattle.sample.specs.declared.RearPressure.TheVariants.{Present, Lost}
use Rattle.trend.specs.declared.Sums.{Sums}
use Rattle.trend.specs.Result.{Learnt, Nothing}
use Rattle.trend.specs.Points.{no_sums, with_point}
use Rattle.trend.specs.Line.{levels_off}
use Rattle.trend.specs.Result.{result_of}
use Rattle.trend.specs.Sound.{most}
use Rattle.learn.specs.declared.Stage.{Stage}
use Rattle.learn.specs.declared.Stage.TheVariants.{Waiting, FrontFell, Initial, Falling, Done}
use Rattle.learn.specs.declared.Learner.{Learner}
use Rattle.learn.specs.declared.Shown.{Shown}
use Rattle.learn.specs.declared.Lesson.{Lesson}
use Rattle.learn.specs.Stage.{without_points, bare}
use Rattle.learn.specs.Learn.{is_front_down, timer, is_over, is_rear_down}

abbrev pub lesson : Learner → Learnt → Lesson
lesson l learnt = record { learner = l; learnt = learnt }

abbrev pub without : Learner → Lesson
without l = lesson l Nothing

-- ---- what each stage keeps

abbrev pub kept_fell : (since : ℕ) → Learner
kept_fell since = without_points FrontFell since 0

abbrev pub kept_initial : (since p0 : ℕ) → Learner
kept_initial since p0 = without_points Initial since p0

abbrev pub kept_falling : (since init last p : ℕ) → Sums → Learner
kept_falling since init last p sums = record { stage = Falling; since = since; init = init; last = last; pressure = p; sums = sums }

-- ---- (10), (9), (8), (7), (6) of a present rear p

abbrev pub is_complete : Learner → (t p : ℕ) → Bool
is_complete l t p = leb 4 (with_point l.sums t p).count && levels_off (l.pressure - p) (t - l.last) (with_point l.sums t p)

unfoldable pub added_to : Learner → Shown → (t p : ℕ) → Lesson
added_to l s t p =
    cond (is_complete l t p) (lesson (bare Done) (result_of l.init s.equalization p l.sums))
    (without (kept_falling l.since l.init t p (with_point l.sums t p)))

unfoldable pub further_to : Learner → Shown → ℕ → Lesson
further_to l s p =
    cond (ltb p l.pressure)
    (cond (leb most l.sums.count) (without (bare Done)) (added_to l s (timer s l.since - l.init) p))
    (without l)

unfoldable pub first_to : Learner → Shown → ℕ → Lesson
first_to l s p =
    without (cond (is_rear_down p l.pressure) (kept_falling l.since (timer s l.since) 0 p (with_point no_sums 0 p)) l)

unfoldable pub heard_in : Stage → Learner → Shown → ℕ → Lesson
heard_in Waiting l s p = without l
heard_in FrontFell l s p = without (kept_initial l.since p)
heard_in Initial l s p = first_to l s p
heard_in Falling l s p = further_to l s p
heard_in Done l s p = without l

-- ---- (5) to (1) of a sample

abbrev pub rear_to : Learner → Shown → RearPressure → Lesson
rear_to l s (Present p) = heard_in l.stage l s p
rear_to l s Lost = without l

unfoldable pub timed_to : Learner → Shown → Lesson
timed_to l s = cond (is_over s l.since) (without (bare Done)) (rear_to l s s.rear)

unfoldable pub started_by : Shown → RearPressure → Learner
started_by s (Present p) = kept_initial s.time p
started_by s Lost = kept_fell s.time

abbrev pub waited_in : Shown → Learner
waited_in s = cond (is_front_down s) (started_by s s.rear) (bare Waiting)

abbrev pub stayed_in : Shown → Learner
stayed_in s = cond (is_front_down s) (bare Done) (bare Waiting)

unfoldable pub in_stage : Stage → Learner → Shown → Lesson
in_stage Waiting l s = without (waited_in s)
in_stage FrontFell l s = timed_to l s
in_stage Initial l s = timed_to l s
in_stage Falling l s = timed_to l s
in_stage Done l s = without (stayed_in s)

unfoldable pub taught_of : Learner → Shown → Lesson
taught_of l s = cond s.service (in_stage l.stage l s) (without (bare Waiting))
