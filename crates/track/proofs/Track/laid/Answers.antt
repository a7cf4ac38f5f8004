-- Past the last record an array is as it began.
use mathlib.Core.Path.{◌≡◌, ap, ◌∙◌}
use Prim.Native.Nat.{ℕ, ◌<◌, min}
use native.Mathlib.Omega.{arith}
use mathlib.Core.List.{List}
use lib.IntN.{pos}
use mir.Syntax.{w16}
use mir.Val.{to_z, of_z}
use borrow.Author.Rules.{rules}
use Rattle.profile.specs.declared.Segment.{Segment}
use Rattle.profile.specs.Profile.{most, count, segment_at}
use Rattle.profile.proofs.Sound.{past_last}
use Rattle.bits.specs.Tables.{up_to}
use Rattle.bits.proofs.UpTo.{filled, fill, filled_up}
use Rattle.track.specs.declared.Track.{Track}
use Rattle.track.specs.Track.{lay_of}
use Rattle.track.proofs.Lay.{nothing, start_at, grade_at, curvature_at}
use Rattle.track.proofs.Track.laid.Goals as goal

module _ (p : List ℕ) where
  column : {A : Type 0} (field : Segment → A) (n : ℕ) → min (count p) most ≡ n → (xs : List A) → xs ≡ filled (λ k. field (segment_at p k)) (field nothing) most n
      → xs ≡ up_to most (λ k. field (segment_at p k))
  column field n e xs h =
      h ∙ filled_up (λ k. field (segment_at p k)) (field nothing) most n (omega arith) (λ i a b. ap field (past_last p i (omega arith)))

  whole : (t : Track) → t.count ≡ min (count p) most → t.starts ≡ filled (start_at p) 0 most t.count → t.grades ≡ filled (grade_at p) (pos 0) most t.count
      → t.curvatures ≡ filled (curvature_at p) 0 most t.count → t ≡ lay_of p
  unfolding lay_of
  whole t e s g k =
      let n : min (count p) most ≡ t.count = omega arith in
      rw (e, column (λ x. x.start) t.count n t.starts s, column (λ x. x.grade) t.count n t.grades g, column (λ x. x.curvature) t.count n t.curvatures k)

pub loop-k-preserved : goal.loop-k-preserved
loop-k-preserved c =
    let k = c.loop-k.k in
    let g = c.segment_at-g in
    let h : k < most = omega (arith, c.loop-k.auto.k-end, c.min.ensures) in
    let back : to_z w16 (of_z w16 g.result.grade) ≡ g.result.grade = search rules in (
      c.loop-k.invariant.0,
      fill _ 0 most k h _ _ c.loop-k.invariant.1 (ap (λ x. x.start) g.ensures),
      fill _ (pos 0) most k h _ _ c.loop-k.invariant.2 (back ∙ ap (λ x. x.grade) g.ensures),
      fill _ 0 most k h _ _ c.loop-k.invariant.3 (ap (λ x. x.curvature) g.ensures),
    )

pub returns : goal.returns
returns c =
    let l = c.loop-k in
    let e : l.k ≡ l.track.count = omega (arith, l.auto.k-end, l.invariant.0, c.min.ensures) in
    whole c.args.p.now l.track l.invariant.0
    (l.invariant.1 ∙ ap (filled _ 0 most) e)
    (l.invariant.2 ∙ ap (filled _ (pos 0) most) e)
    (l.invariant.3 ∙ ap (filled _ 0 most) e)
