-- `hundredths::hundredths` meets its contract: 100 x is written as two fractions, and both round to the same. Assumes nothing.
-- A walk: tried without, and as answers to its goals, and it did not close.
use mathlib.Core.Path.{◌≡◌, sym, ap, ◌∙◌}
use Prim.Native.Nat.{ℕ, ◌*◌, ◌^◌}
use native.Mathlib.Nat.{mul_assoc}
use native.Mathlib.Omega.{arith}
use lib.Dec.{lit≤}
use lib.Pow.{pow_pos}
use borrow.Author.Rules.{rules}
use Rattle.hundredths.specs.IsFraction.{most_exact}
use Rattle.hundredths.specs.Reading.{numerator, denominator, hundredths_of, most_psi}
use Rattle.hundredths.proofs.Accepted.{wider, denominator_pos, hundredths_most}
use Rattle.hundredths.proofs.Rounded.{rounded_same}
use Rattle.hundredths.proofs.hundredths.Statement.{statement}
use Rattle.hundredths.proofs.hundredths.Tie as tie

-- 100 x, exactly
hundredfold : (c : tie.After-exact-value) → 100 * numerator c.args.x * 2 ^ c.exact-value.result.places ≡ 100 * c.exact-value.result.digits * denominator c.args.x
hundredfold c =
    let x = c.args.x in
    let v = c.exact-value.result in
    mul_assoc 100 (numerator x) (2 ^ v.places) ∙ ap (λ (z : ℕ). 100 * z) c.exact-value.ensures.value ∙ sym (mul_assoc 100 v.digits (denominator x))

exact-requires : tie.Need-exact-value-requires
exact-requires c κs = wider most_psi most_exact c.args.x (lit≤ tt) c.requires

mul-quotient : tie.Need-overflow_mul-value
mul-quotient c = search rules

quotient-requires : tie.Need-quotient-requires
quotient-requires c κs = search rules

returns : tie.Need-returns
unfolding hundredths_of
returns c =
    let a = c.args in
    let v = c.exact-value.result in
    c.quotient.ensures
    ∙ rounded_same a.rounding (100 * v.digits) (2 ^ v.places) (100 * numerator a.x) (denominator a.x) (pow_pos v.places) (denominator_pos a.x) (sym (hundredfold c.before.before))

cast-result : tie.Need-overflow_cast-result
cast-result c =
    let s = c.before.before.before in
    omega (arith, returns c, hundredths_most s.args.rounding most_psi s.args.x s.requires)

pub hundredths_spec : {M : Type 1} → statement M
hundredths_spec = tie.close (tie.spec exact-requires mul-quotient quotient-requires cast-result returns)
