-- The scanned sums are the differences of the totals at head and rear.
use mathlib.Core.Path.{◌≡◌, sym, ap, subst₂, ◌∙◌}
use Prim.Native.Nat.{ℕ, ◌-◌, ◌^◌, ◌<◌}
use native.Mathlib.Omega.{arith}
use Rattle.track.specs.declared.Track.{Track}
use Rattle.track.specs.declared.Under.{Under}
use Rattle.track.specs.declared.Reached.{Reached}
use Rattle.track.specs.Track.{grade_under, curvature_under, under_of}
use Rattle.track.specs.Gentle.{Gentle}
use Rattle.track.specs.Totals.{found_of, Differences, Totalled}
use Rattle.track.specs.Steps.{reached_of, Behind, averages_of}
use Rattle.track.proofs.Differences.{totalled}
use Rattle.track.proofs.Sizes.{to_sized}
use Rattle.track.proofs.Route.under_train.Goals as goal

module _ (t : Track) (gentle : Gentle t) (head length : ℕ) (fits : head < 2 ^ 32) where
  abbrev rear : ℕ
  rear = head - length

  differ : Differences t rear head
  unfolding Totalled
  differ = totalled t rear head gentle.rising (omega arith)

  behind : Behind (reached_of t rear).sums (reached_of t head).sums
  behind = record { sized_rear = to_sized t gentle rear (omega arith); sized_head = to_sized t gentle head fits; rises = differ.rises }

  averages_are : averages_of (reached_of t rear).sums (reached_of t head).sums length ≡ under_of t head length
  unfolding grade_under curvature_under
  averages_are = rw (differ.grade, differ.curvature)

  together : (at_rear at_head : Reached) (u : Under) → at_rear ≡ reached_of t rear → at_head ≡ reached_of t head → u ≡ averages_of at_rear.sums at_head.sums length
      → record { under = u; head_in = at_head.segment; rear_in = at_rear.segment } ≡ found_of t head length
  together at_rear at_head u e f g = rw (g, e, f, averages_are)

  -- where the rear is
  at_rear_is : (at_rear : Reached) (x : ℕ) → at_rear ≡ reached_of t x → x ≡ rear → at_rear ≡ reached_of t rear
  at_rear_is at_rear x e r = e ∙ ap (reached_of t) r

pub averages-requires : goal.averages-requires
averages-requires c =
    let t = c.args.self.track.now in
    let fits : c.args.head < 2 ^ 32 = omega arith in
    subst₂ (λ (x y : Reached). Behind x.sums y.sums)
    (sym (at_rear_is t c.requires.gentle c.args.head c.args.length fits _ _ c.reached_at-at_rear.ensures c.saturating_sub.ensures))
    (sym c.reached_at-at_head.ensures)
    (behind t c.requires.gentle c.args.head c.args.length fits)

pub returns : goal.returns
returns c =
    let t = c.args.self.track.now in
    let fits : c.args.head < 2 ^ 32 = omega arith in
    together t c.requires.gentle c.args.head c.args.length fits _ _ _
    (at_rear_is t c.requires.gentle c.args.head c.args.length fits _ _ c.reached_at-at_rear.ensures c.saturating_sub.ensures)
    c.reached_at-at_head.ensures
    c.averages.ensures
