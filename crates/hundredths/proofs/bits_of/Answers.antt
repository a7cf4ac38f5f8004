-- Only a NaN differs from itself.
use mathlib.Core.Path.{◌≡◌, sym, ap, subst}
use mathlib.Core.Bool.{false, not, true≢false}
use lib.Dec.{T}
use lib.Ieee.{Float, nan, inf, fin, is_nan, ne, binary32, to_bits}
use lib.Ieee.Compare.{differs_from_itself}
use borrow.Author.Rules.{rules}
use Rattle.hundredths.proofs.bits_of.Goals as goal

no_nan : (x : Float) → ne x x ≡ false → T (not (is_nan x))
unfolding ne is_nan
no_nan nan h = absurd (true≢false h)
no_nan (inf s) h = tt
no_nan (fin s m e) h = tt

pub float_to_bits-result : goal.float_to_bits-result
float_to_bits-result c = no_nan c.args.x c.if-x.false

pub returns-then-x : goal.returns-then-x
unfolding to_bits
returns-then-x c = sym (ap (to_bits binary32) (differs_from_itself c.args.x (subst T (sym c.if-x.true) tt)))
