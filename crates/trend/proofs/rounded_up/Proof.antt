-- `trend::rounded_up` meets its contract. Assumes nothing.
-- A walk: tried without, and as answers to its goals, and it did not close.
use mathlib.Core.Path.{◌≡◌, ◌∙◌}
use Prim.Native.Nat.{ℕ, ◌*◌, ◌^◌, ◌≤◌, ◌<◌}
use native.Mathlib.Omega.{arith}
use lib.IntN.{ℤ, pos, nat_abs, ◌+ℤ◌, ◌-ℤ◌, ◌*ℤ◌}
use mir.Syntax.{w64}
use mir.Val.{SFits, to_z, of_z}
use Rattle.whole.specs.Floor.{cut}
use Rattle.whole.proofs.Parts.{AtMost}
use Rattle.whole.proofs.Order.{lt_parts}
use Rattle.whole.proofs.Size.{abs_parts, abs_sub, abs_times, fits_abs}
use Rattle.whole.proofs.Words.{Holds, nat_holds, fit_holds, op_fits, op_holds, unsigned_is, unsigned_fits}
use Rattle.trend.proofs.Words.{times_fits, times_holds}
use Rattle.trend.proofs.Bounds.{product_most}
use Rattle.trend.proofs.Rounding.{rest_of, thousandths, Divided, divided, rounded_most}
use borrow.Author.Rules.{rules}
use Rattle.trend.proofs.rounded_up.Statement.{statement}
use Rattle.trend.proofs.rounded_up.Tie as tie

module _ (c : tie.Start) where
  abbrev x : ℤ
  x = c.args.x

  abbrev y : ℤ
  y = c.args.y

  abbrev q : ℤ
  q = c.args.quotient

  by : Divided x y q
  by = divided x y q c.requires.fraction.above c.requires.down

  x_holds : Holds w64 (of_z w64 x) x
  x_holds = fit_holds c.ranges.x

  y_holds : Holds w64 (of_z w64 y) y
  y_holds = fit_holds c.ranges.y

  q_holds : Holds w64 (of_z w64 q) q
  q_holds = fit_holds c.ranges.quotient

  hundred : 100 * nat_abs x < 2 ^ 63
  hundred = omega (arith, c.requires.fraction.dividend)

  product : nat_abs (y *ℤ q) ≤ 100000000000000 * 1000
  product = product_most y q c.requires.fraction.divisor c.requires.within

  hundred_holds : Holds w64 (of_z w64 (pos 100 *ℤ to_z w64 (of_z w64 x))) (pos 100 *ℤ x)
  hundred_holds = times_holds 100 x_holds (omega arith) hundred

  product_fits : SFits w64 (y *ℤ q)
  product_fits = fits_abs (omega (arith, product))

  product_holds : Holds w64 (of_z w64 (to_z w64 (of_z w64 y) *ℤ to_z w64 (of_z w64 q))) (y *ℤ q)
  product_holds = op_holds ◌*ℤ◌ y_holds q_holds product_fits

  rest_fits : SFits w64 (rest_of x y q)
  rest_fits = fits_abs (omega (arith, abs_sub (pos 100 *ℤ x) (y *ℤ q), abs_times 100 x, hundred, product))

  abbrev rest : ℕ
  rest = of_z w64 (to_z w64 (of_z w64 (pos 100 *ℤ to_z w64 (of_z w64 x))) -ℤ to_z w64 (of_z w64 (to_z w64 (of_z w64 y) *ℤ to_z w64 (of_z w64 q))))

  rest_holds : Holds w64 rest (rest_of x y q)
  rest_holds = op_holds ◌-ℤ◌ hundred_holds product_holds rest_fits

  rest_is : nat_abs (to_z w64 rest) ≡ cut (rest_of x y q)
  rest_is = unsigned_is rest_holds by.some

  divisor_some : AtMost (pos 0) y
  divisor_some = omega (arith, lt_parts c.requires.fraction.above)

  divisor_is : nat_abs (to_z w64 (of_z w64 y)) ≡ cut y
  divisor_is = unsigned_is y_holds divisor_some

  divisor_most : cut y ≤ 100000000000000
  divisor_most = omega (arith, abs_parts y, c.requires.fraction.divisor)

mul-rest : tie.Need-overflow_mul-rest
mul-rest c = times_fits 100 (x_holds c) (omega arith) (hundred c)

mul-rest-2 : tie.Need-overflow_mul-rest-2
mul-rest-2 c = op_fits ◌*ℤ◌ (y_holds c) (q_holds c) (product_fits c)

sub-rest : tie.Need-overflow_sub-rest
sub-rest c = op_fits ◌-ℤ◌ (hundred_holds c) (product_holds c) (rest_fits c)

cast-ceil-div : tie.Need-overflow_cast-rest
cast-ceil-div c = unsigned_fits (rest_holds c) (by c).some (omega (arith, (by c).less, divisor_most c))

mul-ceil-div : tie.Need-overflow_mul-rest-3
mul-ceil-div c = omega (arith, rest_is c, (by c).less, divisor_most c)

cast-ceil-div-2 : tie.Need-overflow_cast-y
cast-ceil-div-2 c = unsigned_fits (y_holds c) (divisor_some c) (omega (arith, divisor_most c))

module _ (c : tie.After-ceil_div-up) where
  up_is : c.ceil_div-up.result ≡ thousandths (x c.before) (y c.before) (q c.before)
  up_is = c.ceil_div-up.ensures ∙ rw (rest_is c.before, divisor_is c.before)

  up_most : c.ceil_div-up.result ≤ 1000
  up_most = rw up_is (by c.before).most

  up_holds : Holds w64 c.ceil_div-up.result (pos (thousandths (x c.before) (y c.before) (q c.before)))
  up_holds = rw up_is (nat_holds (omega (arith, (by c.before).most)))

  quotient_holds : Holds w64 (of_z w64 (pos 1000 *ℤ to_z w64 (of_z w64 (q c.before)))) (pos 1000 *ℤ q c.before)
  quotient_holds = times_holds 1000 (q_holds c.before) (omega arith) (omega (arith, c.requires.within))

  sum_fits : SFits w64 (pos 1000 *ℤ q c.before +ℤ pos (thousandths (x c.before) (y c.before) (q c.before)))
  sum_fits = rw (by c.before).up (fits_abs (omega (arith, rounded_most (by c.before) c.requires.within)))

mul-result : tie.Need-overflow_mul-result
mul-result c = times_fits 1000 (q_holds c.before) (omega arith) (omega (arith, c.requires.within))

cast-result : tie.Need-overflow_cast-result
cast-result c = fits_abs (omega (arith, up_most c))

add-result : tie.Need-overflow_add-result
add-result c = op_fits ◌+ℤ◌ (quotient_holds c) (up_holds c) (sum_fits c)

returns : tie.Need-returns
returns c = (op_holds ◌+ℤ◌ (quotient_holds c) (up_holds c) (sum_fits c)).reads ∙ (by c.before).up

pub rounded_up_spec : {M : Type 1} → statement M
rounded_up_spec =
    tie.close
    (tie.spec mul-rest mul-rest-2 sub-rest cast-ceil-div mul-ceil-div cast-ceil-div-2 (λ c κs. search rules) mul-result cast-result add-result returns)
