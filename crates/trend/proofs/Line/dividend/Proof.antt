-- `Line::dividend` meets its contract. Assumes nothing.
-- A walk: tried without, and as answers to its goals, and it did not close.
use Prim.Native.Nat.{◌*◌, ◌^◌, ◌≤◌, ◌<◌}
use native.Mathlib.Nat.{mul-le-mul}
use native.Mathlib.Omega.{arith}
use lib.IntN.{ℤ, pos, nat_abs, ◌-ℤ◌, ◌*ℤ◌}
use mir.Syntax.{w64}
use mir.Val.{SFits, to_z, of_z}
use Rattle.whole.proofs.Size.{fits_abs}
use Rattle.whole.proofs.Words.{Holds, op_fits, op_holds}
use Rattle.trend.specs.Line.{intercept_top, bottom}
use Rattle.trend.specs.Result.{dividend}
use Rattle.trend.proofs.Words.{told, times_fits, times_holds}
use Rattle.trend.proofs.Bounds.{bottom_most, dividend_most}
use borrow.Author.Rules.{rules, sfits_of}
use Rattle.trend.proofs.Line.dividend.Statement.{statement}
use Rattle.trend.proofs.Line.dividend.Tie as tie

module _ (c : tie.After-bottom-z) where
  abbrev start : tie.Start
  start = c.before.before

  word : start.args.equalization ≤ 65535
  word = omega arith

  intercept_holds : Holds w64 (of_z w64 c.intercept_top-b.result) (intercept_top start.args.self.sums)
  intercept_holds = told (sfits_of c.intercept_top-b.type_inv) c.intercept_top-b.ensures

  bottom_holds : Holds w64 (of_z w64 c.bottom-z.result) (bottom start.args.self.sums)
  bottom_holds = told (sfits_of c.bottom-z.type_inv) c.bottom-z.ensures

  within : start.args.equalization * nat_abs (bottom start.args.self.sums) < 2 ^ 63
  within = omega (arith, mul-le-mul word (bottom_most start.args.self.small))

  abbrev level : ℤ
  level = pos start.args.equalization *ℤ bottom start.args.self.sums

  level_holds : Holds w64 (of_z w64 (to_z w64 start.args.equalization *ℤ to_z w64 (of_z w64 c.bottom-z.result))) level
  level_holds = times_holds start.args.equalization bottom_holds (omega arith) within

  dividend_fits : SFits w64 (intercept_top start.args.self.sums -ℤ level)
  unfolding dividend
  dividend_fits = fits_abs (omega (arith, dividend_most start.args.self.small word))

mul-result : tie.Need-overflow_mul-result
mul-result c = times_fits (start c).args.equalization (bottom_holds c) (omega arith) (within c)

sub-result : tie.Need-overflow_sub-result
sub-result c = op_fits ◌-ℤ◌ (intercept_holds c) (level_holds c) (dividend_fits c)

returns : tie.Need-returns
unfolding dividend
returns c = (op_holds ◌-ℤ◌ (intercept_holds c) (level_holds c) (dividend_fits c)).reads

pub dividend_spec : {M : Type 1} → statement M
dividend_spec =
    tie.close (tie.spec (λ c κs. search rules) (λ c κs. search rules) (λ c. search rules) mul-result sub-result returns)
