-- `step::opposing_force` meets its contract: its words fit, and hold the terms of the definition and their sums.
-- A walk, of which a must-fail edit changes a line: tried without, and as answers to its goals, and it did not close.
-- Assumes nothing.
use Prim.Native.Nat.{ℕ, ◌*◌, ◌≤◌}
use native.Mathlib.Omega.{arith}
use lib.IntN.{pos, ◌+ℤ◌, ◌*ℤ◌}
use mir.Syntax.{w64}
use mir.Val.{SFits, to_z, of_z}
use Rattle.whole.proofs.Size.{fits_abs}
use Rattle.whole.proofs.Words.{Holds, nat_holds, fit_holds, op_fits, op_holds}
use Rattle.consist.specs.declared.Consist.{Consist}
use Rattle.step.specs.Step.{carrying, opposing}
use Rattle.step.proofs.Bounds.{Words, drag, pull, bend, drag_most, pull_most, bend_most, sum_most, opposing_most}
use borrow.Author.Rules.{rules}
use Rattle.step.proofs.opposing_force.Statement.{statement}
use Rattle.step.proofs.opposing_force.Tie as tie

module _ (c : tie.Start) where
  abbrev train : Consist
  train = carrying c.args.load

  abbrev d : ℕ
  d = drag train c.args.f c.args.s c.args.q

  abbrev b : ℕ
  b = bend train c.args.u

  words : Words train
  words = omega arith

  drag_in : d ≤ 680000000000000
  drag_in = drag_most words c.requires

  bend_in : b ≤ 270000000000000
  bend_in = bend_most words c.requires

  factor_holds : Holds w64 (2000 * train.weight) (pos (2000 * train.weight))
  factor_holds = nat_holds (omega (arith, words))

  grade_holds : Holds w64 (of_z w64 c.args.u.grade) c.args.u.grade
  grade_holds = fit_holds (fits_abs (omega (arith, c.requires.grade)))

  pull_fits : SFits w64 (pull train c.args.u)
  pull_fits = fits_abs (omega (arith, pull_most words c.requires))

  -- as the code comes to them: the pull, with the drag, with the bend
  abbrev pulled : ℕ
  pulled = of_z w64 (to_z w64 (2000 * train.weight) *ℤ to_z w64 (of_z w64 c.args.u.grade))

  pulled_holds : Holds w64 pulled (pull train c.args.u)
  pulled_holds = op_holds ◌*ℤ◌ factor_holds grade_holds pull_fits

  drag_holds : Holds w64 d (pos d)
  drag_holds = nat_holds (omega (arith, drag_in))

  sum_fits : SFits w64 (pos d +ℤ pull train c.args.u)
  sum_fits = fits_abs (omega (arith, sum_most words c.requires))

  sum_holds : Holds w64 (of_z w64 (to_z w64 d +ℤ to_z w64 pulled)) (pos d +ℤ pull train c.args.u)
  sum_holds = op_holds ◌+ℤ◌ drag_holds pulled_holds sum_fits

  bend_holds : Holds w64 b (pos b)
  bend_holds = nat_holds (omega (arith, bend_in))

  whole_fits : SFits w64 (pos d +ℤ pull train c.args.u +ℤ pos b)
  unfolding opposing
  whole_fits = fits_abs (omega (arith, opposing_most words c.requires))

-- from where the grade is read, the start
abbrev entry : tie.After-struct_told-1 → tie.Start
entry c = c.before.before.before.before.before

cast-w : tie.Need-overflow_cast-w
cast-w c = search rules

mul-drag : tie.Need-overflow_mul-drag
mul-drag c = search rules

mul-drag-2 : tie.Need-overflow_mul-drag-2
mul-drag-2 c = search rules

add-drag : tie.Need-overflow_add-drag
add-drag c = search rules

cast-drag : tie.Need-overflow_cast-drag
cast-drag c = search rules

mul-drag-3 : tie.Need-overflow_mul-drag-3
mul-drag-3 c = search rules

add-drag-2 : tie.Need-overflow_add-drag-2
add-drag-2 c = search rules

mul-drag-4 : tie.Need-overflow_mul-drag-4
mul-drag-4 c = omega (arith, drag_in c.before.before)

mul-drag-5 : tie.Need-overflow_mul-drag-5
mul-drag-5 c = omega (arith, drag_in c.before.before)

add-drag-3 : tie.Need-overflow_add-drag-3
add-drag-3 c = omega (arith, drag_in c.before.before)

cast-drag-2 : tie.Need-overflow_cast-drag-2
cast-drag-2 c = search rules

mul-drag-6 : tie.Need-overflow_mul-drag-6
mul-drag-6 c = omega (arith, drag_in c.before.before.before)

mul-drag-7 : tie.Need-overflow_mul-drag-7
mul-drag-7 c = omega (arith, drag_in c.before.before.before)

add-drag-4 : tie.Need-overflow_add-drag-4
add-drag-4 c = omega (arith, drag_in c.before.before.before)

mul-pull : tie.Need-overflow_mul-pull
mul-pull c = search rules

cast-pull : tie.Need-overflow_cast-pull
cast-pull c = search rules

mul-pull-2 : tie.Need-overflow_mul-pull-2
mul-pull-2 c = let s = entry c in op_fits ◌*ℤ◌ (factor_holds s) (grade_holds s) (pull_fits s)

mul-bend : tie.Need-overflow_mul-bend
mul-bend c = omega (arith, bend_in (entry c.before))

mul-bend-2 : tie.Need-overflow_mul-bend-2
mul-bend-2 c = omega (arith, bend_in (entry c.before))

cast-result : tie.Need-overflow_cast-result
cast-result c = fits_abs (omega (arith, drag_in (entry c.before)))

add-result : tie.Need-overflow_add-result
add-result c = let s = entry c.before in op_fits ◌+ℤ◌ (drag_holds s) (pulled_holds s) (sum_fits s)

cast-result-2 : tie.Need-overflow_cast-result-2
cast-result-2 c = fits_abs (omega (arith, bend_in (entry c.before)))

add-result-2 : tie.Need-overflow_add-result-2
add-result-2 c = let s = entry c.before in op_fits ◌+ℤ◌ (sum_holds s) (bend_holds s) (whole_fits s)

returns : tie.Need-returns
unfolding opposing
returns c = let s = entry c.before in (op_holds ◌+ℤ◌ (sum_holds s) (bend_holds s) (whole_fits s)).reads

pub opposing_force_spec : {M : Type 1} → statement M
opposing_force_spec =
    tie.close
    (tie.spec
    cast-w
    mul-drag
    mul-drag-2
    add-drag
    cast-drag
    mul-drag-3
    add-drag-2
    mul-drag-4
    mul-drag-5
    add-drag-3
    cast-drag-2
    mul-drag-6
    mul-drag-7
    add-drag-4
    mul-pull
    cast-pull
    mul-pull-2
    mul-bend
    mul-bend-2
    cast-result
    add-result
    cast-result-2
    add-result-2
    returns)
