-- `trend::levels_off` meets its contract. Assumes nothing.
-- A walk: tried without, and as answers to its goals, and it did not close.
use Prim.Native.Nat.{ℕ, ◌*◌, ◌^◌, ◌≤◌, ◌<◌}
use native.Mathlib.Nat.{mul-le-mul}
use native.Mathlib.Omega.{arith}
use lib.IntN.{pos, nat_abs, neg_ℤ, ◌*ℤ◌}
use mir.Syntax.{w64}
use mir.Val.{SFits, to_z, of_z}
use Rattle.whole.proofs.Size.{abs_neg, abs_times, fits_abs}
use Rattle.whole.proofs.Words.{Holds, nat_holds, op_fits, op_holds}
use Rattle.trend.specs.declared.Sums.{Sums}
use Rattle.trend.specs.Line.{slope_top, bottom, levels_off}
use Rattle.trend.proofs.Words.{told, times_fits, times_holds, neg_fits, neg_holds}
use Rattle.trend.proofs.Bounds.{slope_most, bottom_most}
use borrow.Author.Rules.{rules, sfits_of}
use Rattle.trend.proofs.levels_off.Statement.{statement}
use Rattle.trend.proofs.levels_off.Tie as tie

module _ (c : tie.After-bottom-z) where
  abbrev start : tie.Start
  start = c.before.before.before

  abbrev s : Sums
  s = start.args.s

  abbrev fall : ℕ
  fall = start.args.fall

  abbrev seconds : ℕ
  seconds = start.args.seconds

  fall_holds : Holds w64 fall (pos fall)
  fall_holds = nat_holds (omega arith)

  twice_most : 2 * fall ≤ 131070
  twice_most = omega arith

  twice_holds : Holds w64 (of_z w64 (pos 2 *ℤ to_z w64 fall)) (pos (2 * fall))
  twice_holds = times_holds 2 fall_holds (omega arith) (omega arith)

  bottom_holds : Holds w64 (of_z w64 c.bottom-z.result) (bottom s)
  bottom_holds = told (sfits_of c.bottom-z.type_inv) c.bottom-z.ensures

  slope_holds : Holds w64 (of_z w64 c.slope_top-m.result) (slope_top s)
  slope_holds = told (sfits_of c.slope_top-m.type_inv) c.slope_top-m.ensures

  slope_fits : nat_abs (slope_top s) < 2 ^ 63
  slope_fits = omega (arith, slope_most start.requires)

  last_fits : SFits w64 (pos (2 * fall) *ℤ bottom s)
  last_fits = fits_abs (omega (arith, abs_times (2 * fall) (bottom s), mul-le-mul twice_most (bottom_most start.requires)))

  seconds_most : seconds ≤ 65535
  seconds_most = omega arith

  line_fits : seconds * nat_abs (neg_ℤ (slope_top s)) < 2 ^ 63
  line_fits = rw (abs_neg (slope_top s)) (omega (arith, mul-le-mul seconds_most (slope_most start.requires)))

mul-result : tie.Need-overflow_mul-result
mul-result c = times_fits 2 (fall_holds c) (omega arith) (omega (arith, twice_most c))

mul-result-2 : tie.Need-overflow_mul-result-2
mul-result-2 c = op_fits ◌*ℤ◌ (twice_holds c) (bottom_holds c) (last_fits c)

sub-result : tie.Need-overflow_sub-result
sub-result c = neg_fits (slope_holds c) (slope_fits c)

mul-result-3 : tie.Need-overflow_mul-result-3
mul-result-3 c = times_fits (seconds c) (neg_holds (slope_holds c) (slope_fits c)) (omega arith) (line_fits c)

returns : tie.Need-returns
unfolding levels_off
returns c =
    rw (
      (op_holds ◌*ℤ◌ (twice_holds c) (bottom_holds c) (last_fits c)).reads,
      (times_holds (seconds c) (neg_holds (slope_holds c) (slope_fits c)) (omega arith) (line_fits c)).reads,
    )

pub levels_off_spec : {M : Type 1} → statement M
levels_off_spec =
    tie.close
    (tie.spec (λ c. search rules) (λ c κs. search rules) (λ c κs. search rules) (λ c. search rules) mul-result mul-result-2 (λ c. search rules) sub-result mul-result-3
    returns)
