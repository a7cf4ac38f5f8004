-- The points of a run fall: an accepted sample is later than the one before it. Assumes nothing.
use mathlib.Core.Path.{◌≡◌, ap, ◌∙◌, subst}
use mathlib.Core.Bool.{Bool, true, false, cond}
use mathlib.Core.List.{List, [], ◌∷◌}
use Prim.Native.Nat.{ℕ, ◌+◌, ◌<◌}
use native.Mathlib.Nat.{le_refl}
use native.Mathlib.Omega.{arith}
use lib.Dec.{leb}
use borrow.Author.Tests.{leb-true, not-false}
use Rattle.bits.proofs.Ranges.{and-true_left}
use Rattle.sample.specs.declared.RearPressure.{RearPressure}
use Rattle.sample.specs.declared.RearPressure.TheVariants.{Present, Lost}
use Rattle.trend.specs.Result.{Time}
use Rattle.trend.specs.Points.{Point}
use Rattle.learn.specs.declared.Shown.{Shown}
use Rattle.learn.specs.declared.Lesson.{Lesson as Kept}
use Rattle.learn.specs.Learn.{Lesson, without, waiting, falling, done, started, lesson_of, is_front_down}
use Rattle.learn.specs.Suffices.{kept_of, Completes, FallsTo, FallsOn, AlwaysLearns, Suffices, LearntInRange}
use Rattle.learn.proofs.Falls.{falls_on, always_learns}
use Rattle.learn.proofs.Suffices.{suffices}
use Rattle.learn.proofs.Sound.{learnt_in_range}
use Rattle.sampling.specs.Learning.{in_force}
use Rattle.sampling.specs.Sample.{sample_in}
use Rattle.sampling.specs.Laws.{Lent}
use Rattle.demands.specs.History.{Begun, Course, course_of, shown_to, wrong_time_after, nothing}
use Rattle.demands.specs.Learnt.{Learns, RunsLearn}
use Rattle.demands.proofs.Quiet.{Timely, TimelyIn, timely_after}

-- the time of the last sample of a history with one
abbrev last_time : Lent → ℕ
last_time l = (sample_in l.sample).time

-- ---- the first sample

started_falls : (s : Shown) (r : RearPressure) → FallsTo s.time (started s r)
started_falls s (Present p) = le_refl s.time
started_falls s Lost = le_refl s.time

waiting_falls : (s : Shown) (b : Bool) → FallsTo s.time (cond b (started s s.rear) waiting)
waiting_falls s true = started_falls s s.rear
waiting_falls s false = tt

first_falls : (s : Shown) → FallsTo s.time (lesson_of s waiting).0
unfolding lesson_of
first_falls s = by s.service
  where
    by : (b : Bool) → FallsTo s.time (cond b (without (cond (is_front_down s) (started s s.rear) waiting)) (without waiting)).0
    by true = waiting_falls s (is_front_down s)
    by false = tt

-- ---- a history

later : (l k : Lent) (h : List Lent) → wrong_time_after (k ∷ h) (sample_in l.sample) ≡ false → last_time k < last_time l
later l k h t =
    omega (arith, leb-true (last_time k + 1) (last_time l) (and-true_left (leb (last_time k + 1) (last_time l)) (leb (last_time l) (last_time k + 5)) (not-false _ t)))

falls : (c : Begun) (l : Lent) (h : List Lent) → Timely (l ∷ h) → FallsTo (last_time l) (course_of c (l ∷ h)).learning
unfolding course_of FallsOn
falls c l [] t = first_falls (shown_to (course_of c []) (sample_in l.sample))
falls c l (k ∷ h) t =
    let x : Course = course_of c (k ∷ h) in
    falls_on (shown_to x (sample_in l.sample)) (last_time k) x.learning (later l k h t.0) (falls c k h t.1)

-- what ends learning, by the points that the samples before it left
waits : (fell init : ℕ) (last : Point) (before : List Point) → waiting ≡ falling fell init last before → ⊥
waits fell init last before e = let z : ◌≡◌ {A = ℕ} 0 1 = cc in omega arith

module _ (c : Begun) (l : Lent) (fell init p : ℕ) (last : Point) (before : List Point) where
  learns : (h : List Lent) → Timely (l ∷ h) → (course_of c h).learning ≡ falling fell init last before
      → Completes (shown_to (course_of c h) (sample_in l.sample)) fell init last before p → Learns c l h
  unfolding course_of AlwaysLearns LearntInRange Suffices
  learns [] t points ends = absurd (waits fell init last before points)
  learns (k ∷ h) t points ends =
      let x : Course = course_of c (k ∷ h) in
      let s : Shown = shown_to x (sample_in l.sample) in
      let (ms, learnt) = always_learns s (last_time k) fell init p last before (later l k h t.0) (subst (FallsTo (last_time k)) points (falls c k h t.1)) ends in
      let taught : lesson_of s x.learning ≡ (done, Time ms) = ap (lesson_of s) points ∙ learnt in
      let (least, most) = learnt_in_range (kept_of x.learning) s ms (ap (λ (r : Kept). r.learnt) (suffices s x.learning) ∙ ap (λ (r : Lesson). r.1) taught) in
      record {
        ms = ms;
        least = least;
        most = most;
        serves = ap (λ (r : Lesson). in_force x.train r.1) taught;
        ends = ap (λ (r : Lesson). r.0) taught;
      }

pub runs_learn : RunsLearn
unfolding RunsLearn
runs_learn ks c l h fell init p last before e points ends = learns c l fell init p last before h (subst TimelyIn e (timely_after nothing tt ks)) points ends
