-- `hundredths::pressure` meets its contract: 160.0 is 5 * 2 ^ 5. Assumes nothing.
-- A walk: tried without, and as answers to its goals, and it did not close.
use mathlib.Core.Path.{◌≡◌, refl, sym, ◌∙◌}
use mathlib.Core.Bool.{false, not}
use lib.IntN.{pos}
use lib.Ieee.{fin, of_bits}
use borrow.Author.Rules.{rules}
use borrow.Author.Tests.{not-true, not-false}
use Rattle.hundredths.specs.InRange.{in_range}
use Rattle.hundredths.specs.Reading.{is_bad, most_psi, pressure_of}
use Rattle.hundredths.proofs.Judge.{judges}
use Rattle.hundredths.proofs.pressure.Statement.{statement}
use Rattle.hundredths.proofs.pressure.Tie as tie

in-range-requires : tie.Need-in_range-requires
in-range-requires c κs = search rules

test : (c : tie.After-in_range) → c.in_range.result ≡ not (is_bad most_psi c.args.x)
unfolding of_bits
test c =
    let compared : c.in_range.result ≡ in_range c.args.x (fin false 5 (pos 5)) = c.in_range.ensures in
    compared ∙ judges most_psi 5 5 refl c.args.x

accepted : (c : tie.Then-in_range) → is_bad most_psi c.args.x ≡ false
accepted c = not-true (is_bad most_psi c.args.x) (sym (test c.before) ∙ c.if-in_range.true)

hundredths-requires : tie.Need-hundredths-requires
hundredths-requires c κs = accepted c

returns : tie.Need-returns-then-in_range
unfolding pressure_of
returns c = simp (accepted c.before, c.hundredths.ensures)

returns-2 : tie.Need-returns-else-in_range
unfolding pressure_of
returns-2 c = simp (not-false (is_bad most_psi c.args.x) (sym (test c.before) ∙ c.if-in_range.false))

pub pressure_spec : {M : Type 1} → statement M
pressure_spec = tie.close (tie.spec in-range-requires hundredths-requires returns returns-2)
