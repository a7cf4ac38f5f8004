-- `shares::grade_share` meets its contract: a sum of the steepest grade under the longest block, times a hundred and the heaviest weight, fits its word.
-- A walk, of which a must-fail edit changes a line: tried without, and as answers to its goals, and it did not close.
-- Assumes nothing.
use mathlib.Core.Path.{◌∙◌}
use Prim.Native.Nat.{◌≤◌}
use native.Mathlib.Nat.{mul-le-mul}
use native.Mathlib.Omega.{arith}
use lib.IntN.{ℤ, pos, nat_abs, ◌*ℤ◌}
use mir.Syntax.{w64}
use mir.Val.{SFits, to_z, of_z}
use mir.Facts.{to_z-of_z}
use borrow.Author.Rules.{rules, sfits_of}
use Rattle.whole.specs.Floor.{floor_div}
use Rattle.whole.proofs.Size.{abs_times, fits_abs}
use Rattle.whole.proofs.Words.{Holds, nat_holds, fit_holds, op_fits, op_holds, both}
use Rattle.shares.proofs.grade_share.Statement.{statement}
use Rattle.shares.proofs.grade_share.Tie as tie

module _ (c : tie.Start) where
  abbrev finer : ℤ
  finer = pos 100 *ℤ c.args.sum

  abbrev weighed : ℤ
  weighed = pos c.args.weight *ℤ finer

  hundred_holds : Holds w64 100 (pos 100)
  hundred_holds = nat_holds (omega arith)

  sum_holds : Holds w64 (of_z w64 c.args.sum) c.args.sum
  sum_holds = fit_holds c.ranges.sum

  finer_most : nat_abs finer ≤ 3276750000
  finer_most = omega (arith, abs_times 100 c.args.sum, c.requires)

  finer_fits : SFits w64 finer
  finer_fits = fits_abs (omega (arith, finer_most))

  finer_holds : Holds w64 (of_z w64 (to_z w64 100 *ℤ to_z w64 (of_z w64 c.args.sum))) finer
  finer_holds = op_holds ◌*ℤ◌ hundred_holds sum_holds finer_fits

  weight_holds : Holds w64 c.args.weight (pos c.args.weight)
  weight_holds = nat_holds (omega arith)

  weighed_fits : SFits w64 weighed
  weighed_fits =
      let w : c.args.weight ≤ 65535 = omega arith in
      fits_abs (omega (arith, abs_times c.args.weight finer, mul-le-mul w finer_most))

returns : tie.Need-returns
returns c =
    let s = c.before in
    to_z-of_z {w = w64} (sfits_of c.floor_div.type_inv)
    ∙ c.floor_div.ensures
    ∙ both floor_div (op_holds ◌*ℤ◌ (weight_holds s) (finer_holds s) (weighed_fits s)) (nat_holds (omega arith))

pub grade_share_spec : {M : Type 1} → statement M
grade_share_spec =
    tie.close
    (tie.spec
    (λ c. search rules)
    (λ c. op_fits ◌*ℤ◌ (hundred_holds c) (sum_holds c) (finer_fits c))
    (λ c. op_fits ◌*ℤ◌ (weight_holds c) (finer_holds c) (weighed_fits c))
    (λ c. search rules)
    (λ c κs. search rules)
    returns)
