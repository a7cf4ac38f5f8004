use mathlib.Core.Path.{◌≡◌, refl, sym, ap, ◌∙◌}
use Prim.Native.Nat.{ℕ, ◌+◌, ◌-◌}
use native.Mathlib.Omega.{arith}
use native.Mathlib.Numerals.{add-one}
use lib.IntN.{ℤ, pos}
use mir.Syntax.{w64}
use mir.Val.{to_z, of_z}
use borrow.Author.Rules.{rules}
use Rattle.profile.specs.Profile.{most}
use Rattle.bits.proofs.UpTo.{filled, fill}
use Rattle.track.specs.declared.Track.{Track}
use Rattle.track.specs.declared.Totals.{Totals}
use Rattle.track.specs.declared.Sums.{Sums}
use Rattle.track.specs.Track.{at, segments}
use Rattle.track.specs.Totals.{all_feet, grade_total, curvature_total, placed, totals_of}
use Rattle.track.specs.Steps.{plus_of, total_of}
use Rattle.track.proofs.Totals.summed.Goals as goal

-- of one segment more
next : (t : Track) (k f : ℕ) (s : Sums) → s ≡ total_of t k → f ≡ (at t (k + 1)).start - (at t k).start
    → plus_of s f (at t k).grade (at t k).curvature ≡ total_of t (k + 1)
unfolding all_feet grade_total curvature_total
next t k f s is feet_are = rw (is, feet_are) (ap (total_of t) (sym (add-one k)))

all : (t : Track) (s : Totals) → s.grades ≡ placed t (grade_total t) (pos 0) → s.curvatures ≡ placed t (curvature_total t) 0 → s ≡ totals_of t
unfolding totals_of
all t s g c = rw (g, c)

pub loop-k-init : goal.loop-k-init
unfolding grade_total curvature_total
loop-k-init c = (refl, record { grade = omega arith; curvature = omega arith }, refl, refl)

pub loop-k-preserved : goal.loop-k-preserved
loop-k-preserved c =
    let l = c.loop-k in
    let t = c.args.track.now in
    let plus = c.along-sums in
    let sum : plus.result ≡ total_of t (l.k + 1) = plus.ensures.sum ∙ next t l.k _ l.sums l.invariant.0 c.saturating_sub-feet.ensures in
    let stored : ℤ = to_z w64 (of_z w64 plus.result.grade) in
    let back : stored ≡ plus.result.grade = search rules in (
      sum,
      plus.ensures.sized l.k l.invariant.1,
      fill (grade_total t) (pos 0) most (l.k + 1) (omega arith) l.totals.grades stored l.invariant.2 (back ∙ ap (λ (s : Sums). s.grade) sum),
      fill (curvature_total t) 0 most (l.k + 1) (omega arith) l.totals.curvatures plus.result.curvature l.invariant.3 (ap (λ (s : Sums). s.curvature) sum),
    )

pub returns : goal.returns
returns c =
    let l = c.loop-k in
    let t = c.args.track.now in
    let e : l.k ≡ segments t = omega (arith, c.last-last.ensures, l.auto.k-end) in
    all t l.totals
    (l.invariant.2 ∙ ap (λ (k : ℕ). filled (grade_total t) (pos 0) most (k + 1)) e)
    (l.invariant.3 ∙ ap (λ (k : ℕ). filled (curvature_total t) 0 most (k + 1)) e)
