use mathlib.Core.Path.{sym}
use native.Mathlib.Nat.{lt_of_lt_of_le, div-eq_of_lt}
use lib.Pow.{pow_mono}
use borrow.Author.Rules.{rules}
use Rattle.hundredths.proofs.shifted.Goals as goal

-- n is below 2 ^ 32
pub returns-else-places-lt32 : goal.returns-else-places-lt32
returns-else-places-lt32 c = sym (div-eq_of_lt (lt_of_lt_of_le c.ranges.n.fits (pow_mono {i = 32} {j = c.args.places} c.if-places-lt32.false)))
