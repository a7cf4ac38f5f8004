use mathlib.Core.Path.{◌≡◌, ◌∙◌}
use Prim.Native.Nat.{ℕ, ◌*◌}
use native.Mathlib.Omega.{arith}
use lib.IntN.{ℤ, pos, ◌*ℤ◌}
use mir.Syntax.{w64}
use mir.Val.{SFits, to_z, of_z}
use borrow.Author.Rules.{rules}
use Rattle.whole.specs.Floor.{floor_div}
use Rattle.whole.proofs.Size.{fits_abs}
use Rattle.whole.proofs.Words.{Holds, nat_holds, op_fits, op_holds, both}
use Rattle.track.specs.declared.Under.{Under}
use Rattle.step.specs.declared.Load.{Load}
use Rattle.step.specs.Step.{carrying, opposing, loss}
use Rattle.step.specs.Range.{Opposed}
use Rattle.step.proofs.Bounds.{Words, scaled_most}
use Rattle.step.proofs.lost.Goals as goal

module _ (l : Load) (f s q : ℕ) (u : Under) (words : Words (carrying l)) (h : Opposed f s q u) (r : ℤ) (back : to_z w64 (of_z w64 r) ≡ r)
    (e : r ≡ opposing (carrying l) f s q u.grade u.curvature) where
  force_holds : Holds w64 (of_z w64 r) (opposing (carrying l) f s q u.grade u.curvature)
  force_holds = record { reads = back ∙ e }

  factor_holds : Holds w64 1449 (pos 1449)
  factor_holds = nat_holds (omega arith)

  scaled_fits : SFits w64 (pos 1449 *ℤ opposing (carrying l) f s q u.grade u.curvature)
  scaled_fits = fits_abs (omega (arith, scaled_most words h))

pub overflow_mul-opposing_force : goal.overflow_mul-opposing_force
overflow_mul-opposing_force c =
    let a = c.args in
    let words : Words (carrying a.load) = omega arith in
    op_fits ◌*ℤ◌ (factor_holds a.load a.f a.s a.q a.u words c.requires _ (search rules) c.opposing_force.ensures)
    (force_holds a.load a.f a.s a.q a.u words c.requires _ (search rules) c.opposing_force.ensures)
    (scaled_fits a.load a.f a.s a.q a.u words c.requires _ (search rules) c.opposing_force.ensures)

pub returns : goal.returns
unfolding loss
returns c =
    let a = c.args in
    let words : Words (carrying a.load) = omega arith in
    let back : to_z w64 (of_z w64 c.floor_div.result) ≡ c.floor_div.result = search rules in
    back
    ∙ c.floor_div.ensures
    ∙ both floor_div
    (op_holds ◌*ℤ◌ (factor_holds a.load a.f a.s a.q a.u words c.requires _ (search rules) c.opposing_force.ensures)
    (force_holds a.load a.f a.s a.q a.u words c.requires _ (search rules) c.opposing_force.ensures)
    (scaled_fits a.load a.f a.s a.q a.u words c.requires _ (search rules) c.opposing_force.ensures))
    (nat_holds {n = 605000 * a.load.weight} (omega arith))
