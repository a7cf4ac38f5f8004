-- What is left of q is a word that holds it, cut at zero.
use mathlib.Core.Path.{◌≡◌, ◌∙◌}
use Prim.Native.Nat.{ℕ, ◌*◌, ◌^◌, ◌≤◌, ◌<◌}
use native.Mathlib.Nat.{le_trans}
use native.Mathlib.Omega.{arith}
use lib.IntN.{ℤ, pos, nat_abs, ◌-ℤ◌, ◌*ℤ◌}
use mir.Syntax.{w64}
use mir.Val.{SFits, to_z, of_z}
use borrow.Author.Rules.{rules}
use Rattle.consist.specs.declared.Consist.{Consist}
use Rattle.track.specs.declared.Under.{Under}
use Rattle.whole.proofs.Parts.{up_mono}
use Rattle.whole.proofs.Order.{le_z-true}
use Rattle.whole.proofs.Size.{abs_sub, fits_abs}
use Rattle.whole.proofs.Floors.{abs_floor}
use Rattle.whole.proofs.Words.{Holds, nat_holds, op_fits, op_holds}
use Rattle.step.specs.declared.Load.{Load}
use Rattle.step.specs.Step.{carrying, opposing, loss}
use Rattle.step.specs.Range.{Opposed}
use Rattle.step.proofs.Bounds.{Words, scaled_most}
use Rattle.step.proofs.slowed.Goals as goal

loss_most : {c : Consist} {f s q : ℕ} {u : Under} → Words c → Opposed f s q u → nat_abs (loss c f s q u.grade u.curvature) ≤ 2 ^ 62
unfolding loss
loss_most {c} {f} {s} {q} {u} w h =
    le_trans (abs_floor (pos 1449 *ℤ opposing c f s q u.grade u.curvature) (pos (605000 * c.weight))) (scaled_most w h)

module _ (l : Load) (f s q : ℕ) (u : Under) (words : Words (carrying l)) (h : Opposed f s q u) (r : ℤ) (back : to_z w64 (of_z w64 r) ≡ r)
    (e : r ≡ loss (carrying l) f s q u.grade u.curvature) where
  abbrev rest : ℤ
  rest = pos q -ℤ loss (carrying l) f s q u.grade u.curvature

  rest_most : nat_abs rest < 2 ^ 63
  rest_most = omega (arith, abs_sub (pos q) (loss (carrying l) f s q u.grade u.curvature), loss_most words h, h.squared)

  q_holds : Holds w64 q (pos q)
  q_holds = nat_holds (omega (arith, h.squared))

  lost_holds : Holds w64 (of_z w64 r) (loss (carrying l) f s q u.grade u.curvature)
  lost_holds = record { reads = back ∙ e }

  rest_fits : SFits w64 (to_z w64 q -ℤ to_z w64 (of_z w64 r))
  rest_fits = op_fits ◌-ℤ◌ q_holds lost_holds (fits_abs rest_most)

  rest_holds : Holds w64 (of_z w64 (to_z w64 q -ℤ to_z w64 (of_z w64 r))) rest
  rest_holds = op_holds ◌-ℤ◌ q_holds lost_holds (fits_abs rest_most)

pub overflow_sub-rest : goal.overflow_sub-rest
overflow_sub-rest c =
    let a = c.args in
    let words : Words (carrying a.load) = omega arith in
    rest_fits a.load a.f a.s a.q a.u words c.requires _ (search rules) c.lost.ensures

pub returns-then-rest-le0 : goal.returns-then-rest-le0
returns-then-rest-le0 c =
    let a = c.args in
    let words : Words (carrying a.load) = omega arith in
    let z = pos a.q -ℤ loss (carrying a.load) a.f a.s a.q a.u.grade a.u.curvature in
    let holds = rest_holds a.load a.f a.s a.q a.u words c.requires _ (search rules) c.lost.ensures in
    omega (arith, up_mono z (pos 0) (le_z-true z (pos 0) (rw holds.reads at c.if-rest-le0.true)))
