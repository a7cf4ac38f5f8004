-- The track of an accepted profile: it has the profile's records, it is gentle, and its totals are small. Assumes nothing.
use mathlib.Core.Path.{◌≡◌, sym, ap, subst}
use Prim.Native.Nat.{ℕ, ◌+◌, ◌≤◌, ◌<◌}
use native.Mathlib.Decide.{dec_lt}
use native.Mathlib.Omega.{arith}
use mathlib.Core.List.{List}
use Rattle.refusal.specs.Verdict.{Accepted}
use Rattle.profile.specs.declared.Segment.{Segment}
use Rattle.profile.specs.Profile.{most, judge_profile}
use Rattle.profile.specs.Sound.{Ranged}
use Rattle.profile.proofs.Sound.{past_last, judged_lawful, judged_sound}
use Rattle.track.specs.Track.{lay_of, at}
use Rattle.track.specs.Rising.{Rising}
use Rattle.track.specs.Gentle.{Gentle}
use Rattle.track.specs.Totals.{Small}
use Rattle.track.proofs.Lay.{nothing, lay_at, lay_past}
use Rattle.track.proofs.Sizes.{grade_total_most, curvature_total_most}

module _ (p : List ℕ) (n : ℕ) (h : judge_profile p ≡ (Accepted, n)) where
  -- every place, past the last record too
  lay_ranged : (k : ℕ) → Ranged (at (lay_of p) k)
  lay_ranged k = by (dec_lt k n) (dec_lt k most)
    where
      zeros : Ranged nothing
      zeros = record { grade = omega arith; curvature = omega arith; start = omega arith }

      by : Dec (k < n) → Dec (k < most) → Ranged (at (lay_of p) k)
      by (yes a) (yes b) = subst Ranged (sym (lay_at p k b)) ((judged_sound p n h).each k a)
      by (no a) (yes b) = subst Ranged (sym (lay_at p k b)) (subst Ranged (sym (past_last p k (omega (arith, (judged_lawful p n h).1)))) zeros)
      by d (no b) = subst Ranged (sym (lay_past p k (omega arith))) zeros

  -- from one record to the next
  rises : (k : ℕ) → k + 1 < n → k + 1 < most → (at (lay_of p) k).start ≤ (at (lay_of p) (k + 1)).start
  rises k a b =
      omega (
        arith,
        ap (λ (g : Segment). g.start) (lay_at p k (omega arith)),
        ap (λ (g : Segment). g.start) (lay_at p (k + 1) b),
        (judged_sound p n h).rising k (k + 1) (omega arith) a,
      )

  lay_rising : Rising (lay_of p)
  unfolding lay_of
  lay_rising = record { starts = λ k l. omega (arith, rises k (omega (arith, (judged_lawful p n h).1)) (omega arith)) }

  pub lay_gentle : Gentle (lay_of p)
  lay_gentle = record { grade = λ k. omega (arith, (lay_ranged k).grade); curvature = λ k. (lay_ranged k).curvature; rising = lay_rising }

  pub lay_small : Small (lay_of p)
  lay_small = record {
    grade = λ k l. omega (arith, grade_total_most (lay_of p) lay_gentle k l, (lay_ranged k).start);
    curvature = λ k l. omega (arith, curvature_total_most (lay_of p) lay_gentle k l, (lay_ranged k).start);
  }
