-- `Line::divisor` meets its contract: the steeper slope at equalization or above it, the line's own below. Assumes nothing.
-- A walk: tried without, and as answers to its goals, and it did not close.
use Prim.Native.Nat.{◌^◌, ◌<◌}
use native.Mathlib.Omega.{arith}
use lib.IntN.{pos, nat_abs, ◌-ℤ◌, ◌*ℤ◌}
use mir.Syntax.{w64}
use mir.Val.{SFits, to_z, of_z}
use Rattle.whole.proofs.Size.{abs_times, fits_abs}
use Rattle.whole.proofs.Words.{Holds, op_fits, op_holds}
use Rattle.trend.specs.declared.Sums.{Sums}
use Rattle.trend.specs.Line.{slope_top, bottom}
use Rattle.trend.specs.Result.{divisor}
use Rattle.trend.proofs.Words.{told, times_fits, times_holds, neg_fits, neg_holds}
use Rattle.trend.proofs.Bounds.{slope_most, bottom_most, steeper_most}
use borrow.Author.Tests.{le-leb, lt-leb}
use borrow.Author.Rules.{rules, sfits_of}
use Rattle.trend.proofs.Line.divisor.Statement.{statement}
use Rattle.trend.proofs.Line.divisor.Tie as tie

module _ (c : tie.After-bottom-z) where
  abbrev start : tie.Start
  start = c.before.before

  abbrev s : Sums
  s = start.args.self.sums

  bottom_holds : Holds w64 (of_z w64 c.bottom-z.result) (bottom s)
  bottom_holds = told (sfits_of c.bottom-z.type_inv) c.bottom-z.ensures

  slope_holds : Holds w64 (of_z w64 c.slope_top-m.result) (slope_top s)
  slope_holds = told (sfits_of c.slope_top-m.type_inv) c.slope_top-m.ensures

  -- 933 Z, 110 M, 100 M
  bottom_933 : Holds w64 (of_z w64 (pos 933 *ℤ to_z w64 (of_z w64 c.bottom-z.result))) (pos 933 *ℤ bottom s)
  bottom_933 = times_holds 933 bottom_holds (omega arith) (omega (arith, bottom_most start.args.self.small))

  slope_110 : Holds w64 (of_z w64 (pos 110 *ℤ to_z w64 (of_z w64 c.slope_top-m.result))) (pos 110 *ℤ slope_top s)
  slope_110 = times_holds 110 slope_holds (omega arith) (omega (arith, slope_most start.args.self.small))

  slope_100 : Holds w64 (of_z w64 (pos 100 *ℤ to_z w64 (of_z w64 c.slope_top-m.result))) (pos 100 *ℤ slope_top s)
  slope_100 = times_holds 100 slope_holds (omega arith) (omega (arith, slope_most start.args.self.small))

  steeper_fits : SFits w64 (pos 933 *ℤ bottom s -ℤ pos 110 *ℤ slope_top s)
  steeper_fits = fits_abs (omega (arith, steeper_most start.args.self.small))

  level_fits : nat_abs (pos 100 *ℤ slope_top s) < 2 ^ 63
  level_fits = omega (arith, abs_times 100 (slope_top s), slope_most start.args.self.small)

mul-result : tie.Need-overflow_mul-result
mul-result c = times_fits 933 (bottom_holds c.before) (omega arith) (omega (arith, bottom_most (start c.before).args.self.small))

mul-result-2 : tie.Need-overflow_mul-result-then-equalization-p
mul-result-2 c = times_fits 110 (slope_holds c.before) (omega arith) (omega (arith, slope_most (start c.before).args.self.small))

sub-result : tie.Need-overflow_sub-result
sub-result c = op_fits ◌-ℤ◌ (bottom_933 c.before) (slope_110 c.before) (steeper_fits c.before)

mul-result-3 : tie.Need-overflow_mul-result-else-equalization-p
mul-result-3 c = times_fits 100 (slope_holds c.before) (omega arith) (omega (arith, slope_most (start c.before).args.self.small))

sub-result-2 : tie.Need-overflow_sub-result-else-equalization-p
sub-result-2 c = neg_fits (slope_100 c.before) (level_fits c.before)

returns : tie.Need-returns-then-equalization-p
unfolding divisor
returns c =
    let a = (start c.before).args in
    rw (le-leb a.equalization a.p (omega arith))
    (op_holds ◌-ℤ◌ (bottom_933 c.before) (slope_110 c.before) (steeper_fits c.before)).reads

returns-2 : tie.Need-returns-else-equalization-p
unfolding divisor
returns-2 c =
    let a = (start c.before).args in
    rw (lt-leb a.equalization a.p (omega arith)) (neg_holds (slope_100 c.before) (level_fits c.before)).reads

pub divisor_spec : {M : Type 1} → statement M
divisor_spec =
    tie.close
    (tie.spec (λ c κs. search rules) (λ c κs. search rules) mul-result mul-result-2 sub-result mul-result-3 sub-result-2 returns returns-2)
