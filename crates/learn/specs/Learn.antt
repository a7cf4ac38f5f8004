-- 000, 3.7: what a sample teaches, over the points themselves, in the order of docs/DECISIONS.md 157. Definitions only.
use Rattle.std.specs.Prelude.{ℕ, ◌+◌, ◌-◌, Bool, ◌&&◌, cond, List, [], ◌∷◌, leb, ltb, length}
use Rattle.sample.specs.declared.RearPressure.{RearPressure}
use Rattle.sample.specs.declared.RearPressure.TheVariants.{Present, Lost}
use Rattle.trend.specs.Result.{Learnt, Nothing}
use Rattle.trend.specs.Points.{Point, sums_of}
use Rattle.trend.specs.Line.{levels_off}
use Rattle.trend.specs.Result.{result_of}
use Rattle.trend.specs.Sound.{most}
use Rattle.learn.specs.declared.Shown.{Shown}

-- ---- how far learning is

pub data Learning : Type 0 where
  -- "waits for a brake pipe pressure reduction"
  waiting : Learning
  -- "a timer is started", at this time; no rear was present since
  front_fell : (since : ℕ) → Learning
  -- "the rear brake pipe pressure is recorded as p0"
  initial : (since p0 : ℕ) → Learning
  -- t_INIT, the last point, and those before it, the latest first
  falling : (since init : ℕ) (last : Point) (before : List Point) → Learning
  done : Learning

-- what a sample makes of it, and what is learnt
abbrev pub Lesson : Type 0
Lesson = Learning × Learnt

abbrev pub without : Learning → Lesson
without l = (l, Nothing)

-- ---- the tests

-- "the front brake pipe pressure is at least three psi less than the brake pipe pressure set point"
abbrev pub is_front_down : Shown → Bool
is_front_down s = leb (s.front + 300) s.set

-- the time on the timer, and "600 seconds since the front fell"
abbrev pub timer : Shown → ℕ → ℕ
timer s since = s.time - since

abbrev pub is_over : Shown → ℕ → Bool
is_over s since = leb 600 (timer s since)

-- "the rear brake pipe pressure is at least three psi less than the initial rear brake pipe pressure"
abbrev pub is_rear_down : (p p0 : ℕ) → Bool
is_rear_down p p0 = leb (p + 300) p0

-- "starting after t_4 and p_4 are recorded": R is less than one half, of the last two points and the line over all
abbrev pub is_complete : Point → Point → List Point → Bool
is_complete x last before =
    let points = x ∷ last ∷ before in
    leb 4 (length points) && levels_off (last.p - x.p) (x.t - last.t) (sums_of points)

-- ---- a present rear p

-- (10) "If the slope is less than 0.5, the brake pipe propagation is determined to be complete": the line is "from the previous time step"
abbrev pub added : Shown → (since init : ℕ) → Point → Point → List Point → Lesson
added s since init x last before =
    cond (is_complete x last before) (done, result_of init s.equalization x.p (sums_of (last ∷ before))) (without (falling since init x (last ∷ before)))

-- (8) "to determine if the rear brake pipe pressure has further dropped"; (9) "At most 256 points are kept; a further one .. ends learning without a result"
abbrev pub further : Shown → (since init : ℕ) → Point → List Point → ℕ → Lesson
further s since init last before p =
    cond (ltb p last.p)
    (cond (leb most (length (last ∷ before))) (without done) (added s since init (record { t = timer s since - init; p = p }) last before))
    (without (falling since init last before))

-- (7) "the time on the timer is recorded as t_INIT, and the timer is reset to zero": the first point is (0, p)
abbrev pub first : Shown → (since p0 : ℕ) → ℕ → Lesson
first s since p0 p = without (cond (is_rear_down p p0) (falling since (timer s since) (record { t = 0; p = p }) []) (initial since p0))

-- (6) no p0 yet: this one
abbrev pub heard : Shown → Learning → ℕ → Lesson
heard s waiting p = without waiting
heard s (front_fell since) p = without (initial since p)
heard s (initial since p0) p = first s since p0 p
heard s (falling since init last before) p = further s since init last before p
heard s done p = without done

-- ---- a sample

-- (5) "A lost rear reading counts for nothing here"
abbrev pub rear_of : Shown → Learning → RearPressure → Lesson
rear_of s l (Present p) = heard s l p
rear_of s l Lost = without l

-- (4) "600 seconds since the front fell, ends learning without a result"
abbrev pub timed : Shown → Learning → ℕ → Lesson
timed s l since = cond (is_over s since) (without done) (rear_of s l s.rear)

-- (3) the front fell now; p0 is the rear, if it is present
abbrev pub started : Shown → RearPressure → Learning
started s (Present p) = initial s.time p
started s Lost = front_fell s.time

-- while the state is 1 or 2; (2) done: "a deeper reduction is no new application"
abbrev pub in_service : Shown → Learning → Lesson
in_service s done = without (cond (is_front_down s) done waiting)
in_service s waiting = without (cond (is_front_down s) (started s s.rear) waiting)
in_service s (front_fell since) = timed s (front_fell since) since
in_service s (initial since p0) = timed s (initial since p0) since
in_service s (falling since init last before) = timed s (falling since init last before) since

-- (1) "in a service application": otherwise it waits
unfoldable pub lesson_of : Shown → Learning → Lesson
lesson_of s l = cond s.service (in_service s l) (without waiting)
