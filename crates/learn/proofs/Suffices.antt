-- The sums suffice, point by point. Assumes nothing.
use mathlib.Core.Path.{◌≡◌, refl, ap, ◌∙◌}
use mathlib.Core.Bool.{◌&&◌, cond}
use mathlib.Core.List.{List, [], ◌∷◌}
use Prim.Native.Nat.{ℕ, ◌-◌}
use native.Mathlib.Numerals.{add-one}
use lib.Dec.{leb, ltb}
use lib.ListN.{length}
use Rattle.sample.specs.declared.RearPressure.{RearPressure}
use Rattle.sample.specs.declared.RearPressure.TheVariants.{Present, Lost}
use Rattle.trend.specs.declared.Sums.{Sums}
use Rattle.trend.specs.Points.{Point, sums_of, no_sums, with_point}
use Rattle.trend.specs.Line.{levels_off}
use Rattle.trend.specs.Result.{result_of}
use Rattle.trend.specs.Sound.{most}
use Rattle.learn.specs.declared.Stage.TheVariants.{Done}
use Rattle.learn.specs.declared.Shown.{Shown}
use Rattle.learn.specs.declared.Lesson.{Lesson}
use Rattle.learn.specs.Stage.{bare}
use Rattle.learn.specs.Learn.{Learning, waiting, front_fell, initial, falling, done, is_front_down, timer, is_over, is_rear_down, is_complete, lesson_of}
use Rattle.learn.specs.Learn as points
use Rattle.learn.specs.Kept.{lesson, without, kept_falling, added_to, further_to, first_to, heard_in, rear_to, timed_to, started_by, in_stage, taught_of}
use Rattle.learn.specs.Suffices.{kept_of, Suffices}
use Rattle.learn.proofs.Choices.{chosen}

-- what is kept of a lesson
abbrev kept : points.Lesson → Lesson
kept x = lesson (kept_of x.0) x.1

-- the sums with one point more are those of one point more
with_more : (x : Point) (xs : List Point) → with_point (sums_of xs) x.t x.p ≡ sums_of (x ∷ xs)
unfolding sums_of
with_more x xs = simp add-one

with_first : (x : Point) → with_point no_sums x.t x.p ≡ sums_of (x ∷ [])
unfolding sums_of
with_first x = refl

module _ (s : Shown) where
  added_is : (since init : ℕ) (x last : Point) (before : List Point)
      → added_to (kept_of (falling since init last before)) s x.t x.p ≡ kept (points.added s since init x last before)
  unfolding added_to sums_of
  added_is since init x last before =
      ap
      (λ (sums : Sums).
      cond (leb 4 sums.count && levels_off (last.p - x.p) (x.t - last.t) sums) (lesson (bare Done) (result_of init s.equalization x.p (sums_of (last ∷ before))))
      (without (kept_falling since init x.t x.p sums)))
      (with_more x (last ∷ before))
      ∙ chosen kept (is_complete x last before) _ _ refl refl

  further_is : (since init : ℕ) (last : Point) (before : List Point) (p : ℕ)
      → further_to (kept_of (falling since init last before)) s p ≡ kept (points.further s since init last before p)
  unfolding further_to sums_of
  further_is since init last before p =
      chosen kept (ltb p last.p) _ _
      (chosen kept (leb most (length (last ∷ before))) _ _ refl (added_is since init (record { t = timer s since - init; p = p }) last before)) refl

  first_is : (since p0 p : ℕ) → first_to (kept_of (initial since p0)) s p ≡ kept (points.first s since p0 p)
  unfolding first_to
  first_is since p0 p =
      ap without
      (chosen kept_of (is_rear_down p p0) _ _
      (ap (kept_falling since (timer s since) 0 p) (with_first (record { t = 0; p = p }))) refl)

  heard_is : (l : Learning) (p : ℕ) → heard_in (kept_of l).stage (kept_of l) s p ≡ kept (points.heard s l p)
  unfolding heard_in
  heard_is waiting p = refl
  heard_is (front_fell since) p = refl
  heard_is (initial since p0) p = first_is since p0 p
  heard_is (falling since init last before) p = further_is since init last before p
  heard_is done p = refl

  rear_is : (l : Learning) (rear : RearPressure) → rear_to (kept_of l) s rear ≡ kept (points.rear_of s l rear)
  rear_is l (Present p) = heard_is l p
  rear_is l Lost = refl

  timed_is : (l : Learning) → timed_to (kept_of l) s ≡ kept (points.timed s l (kept_of l).since)
  unfolding timed_to
  timed_is l = chosen kept (is_over s (kept_of l).since) _ _ refl (rear_is l s.rear)

  started_is : (rear : RearPressure) → started_by s rear ≡ kept_of (points.started s rear)
  unfolding started_by
  started_is (Present p) = refl
  started_is Lost = refl

  in_service : (l : Learning) → in_stage (kept_of l).stage (kept_of l) s ≡ kept (points.in_service s l)
  unfolding in_stage
  in_service waiting = ap without (chosen kept_of (is_front_down s) _ _ (started_is s.rear) refl)
  in_service (front_fell since) = timed_is (front_fell since)
  in_service (initial since p0) = timed_is (initial since p0)
  in_service (falling since init last before) = timed_is (falling since init last before)
  in_service done = ap without (chosen kept_of (is_front_down s) _ _ refl refl)

pub suffices : Suffices
unfolding Suffices taught_of lesson_of
suffices s l = chosen kept s.service _ _ (in_service s l) refl
