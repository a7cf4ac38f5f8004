-- From a track's totals and the place of a location, the totals there.
use mathlib.Core.Path.{◌≡◌, sym, ap, subst, ◌∙◌}
use Prim.Native.Nat.{ℕ, ◌≤◌}
use native.Mathlib.Omega.{arith}
use Rattle.profile.specs.Profile.{most}
use Rattle.track.specs.declared.Track.{Track}
use Rattle.track.specs.declared.Sums.{Sums}
use Rattle.track.specs.declared.Place.{Place}
use Rattle.track.specs.Track.{at, segments}
use Rattle.track.specs.declared.Totals.{Totals}
use Rattle.track.specs.Totals.{AreTotals, holding, grade_to, curvature_to}
use Rattle.track.specs.Steps.{Sized, kept_in, plus_of, total_of, place_of, reached_of}
use Rattle.track.proofs.Holding.{holding_most}
use Rattle.track.proofs.Sizes.{held_sized}
use Rattle.track.proofs.Kept.{kept_total}
use Rattle.track.proofs.Route.reached_at.Goals as goal

together : (t : Track) (x : ℕ) (p : Place) (s r : Sums) → p ≡ place_of t.starts (segments t) x → s ≡ total_of t p.segment
    → r ≡ plus_of s p.feet (at t p.segment).grade (at t p.segment).curvature → record { sums = r; segment = p.segment } ≡ reached_of t x
unfolding grade_to curvature_to
together t x p s r e total_is plus_is = rw (plus_is, total_is, e)

-- where the place is found
module _ (t : Track) (x : ℕ) (p : Place) (e : p ≡ place_of t.starts (segments t) x) where
  found : p.segment ≡ holding t x
  found = ap (λ (p : Place). p.segment) e

  among : p.segment ≤ segments t
  among = omega (arith, found, holding_most t.starts x (segments t))

  -- its total is read
  read_is : (totals : Totals) (s : Sums) → AreTotals t totals → s ≡ kept_in totals.grades totals.curvatures p.segment → s ≡ total_of t p.segment
  read_is totals s h r = r ∙ kept_total t p.segment among totals h

pub at-total-requires : goal.at-total-requires
at-total-requires c = omega (arith, among c.args.self.track.now c.args.location _ c.place_of-place.ensures)

pub along-requires : goal.along-requires
along-requires c =
    let t = c.args.self.track.now in
    let x = c.args.location in
    let e = c.place_of-place.ensures in (
      subst (Sized most) (sym (read_is t x _ e c.args.self.totals.now _ c.args.self.summed c.at-total.ensures ∙ ap (total_of t) (found t x _ e)))
          (held_sized t c.requires.gentle x (omega arith)),
      omega (arith, among t x _ e),
    )

pub returns : goal.returns
returns c =
    let t = c.args.self.track.now in
    let x = c.args.location in
    let e = c.place_of-place.ensures in
    together t x c.place_of-place.result c.at-total.result c.along.result e
    (read_is t x _ e c.args.self.totals.now _ c.args.self.summed c.at-total.ensures)
    c.along.ensures.sum
