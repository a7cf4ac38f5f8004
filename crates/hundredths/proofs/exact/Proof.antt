-- `hundredths::exact` meets its contract: the bits are a pattern of x, which is read off it. Assumes nothing.
-- A walk, of which a must-fail edit changes a line.
use mathlib.Core.Path.{◌≡◌, sym, ap, ◌∙◌, subst}
use native.Mathlib.Omega.{arith}
use lib.Dec.{T}
use lib.Ieee.{binary32, of_bits}
use lib.Ieee.Bits.{of_bits-to_bits}
use borrow.Author.Rules.{rules}
use Rattle.hundredths.proofs.Value.{field-le, without_field, with_field}
use Rattle.hundredths.proofs.exact.Statement.{statement}
use Rattle.hundredths.proofs.exact.Tie as tie

pattern : (c : tie.After-bits_of-bits) → of_bits binary32 c.bits_of-bits.result ≡ c.args.x
pattern c =
    -- an f32 is a value that its format holds
    ap (of_bits binary32) c.bits_of-bits.ensures ∙ of_bits-to_bits binary32 c.args.x (subst T (sym c.well_formed.0.1) tt)

bits-of-requires : tie.Need-bits_of-bits-requires
bits-of-requires c κs = search rules

returns : tie.Need-returns-then-field-eq0
returns c = without_field c.bits_of-bits.result (pattern c.before) c.requires c.if-field-eq0.true

add-digits : tie.Need-overflow_add-digits
add-digits c = search rules

sub-places : tie.Need-overflow_sub-places
sub-places c = omega (arith, field-le c.bits_of-bits.result (pattern c.before) c.requires)

returns-2 : tie.Need-returns
returns-2 c = with_field c.bits_of-bits.result (pattern c.before) c.requires c.if-field-eq0.false

pub exact_spec : {M : Type 1} → statement M
exact_spec = tie.close (tie.spec bits-of-requires returns add-digits sub-places returns-2)
