-- `line::Line::put` meets its contract for a decision: its numbers, put as a line of five. Assumes nothing.
use Rattle.std.proofs.Common.{[], ◌∷◌, ℕ, ap, sym, ◌∙◌}
use Rattle.bits.specs.Fields.{bit}
use Rattle.bits.proofs.Bit.{same_bit}
use Rattle.line.specs.Line.{spaced, read_text, decision_text, put_before}
use Rattle.line.proofs.Line.put.Goals as goal

pub returns-in-Ok : goal.returns-in-Ok
unfolding decision_text
returns-in-Ok c =
    let a = c.args in
    let d = c.in-Ok.d in
    let state = c.from.ensures in
    let penalty = c.from-in-Ok.ensures ∙ same_bit d.penalty in
    let cause = c.from-in-Ok-2.ensures in
    c.put_numbers.ensures
    ∙ ap (λ (n : ℕ). put_before (spaced (d.time ∷ n ∷ c.from-in-Ok.result ∷ c.from-in-Ok-2.result ∷ d.stop ∷ [])) a.end a.out.now) state
    ∙ ap (λ (n : ℕ). put_before (spaced (d.time ∷ d.state ∷ n ∷ c.from-in-Ok-2.result ∷ d.stop ∷ [])) a.end a.out.now) penalty
    ∙ ap (λ (n : ℕ). put_before (spaced (d.time ∷ d.state ∷ bit d.penalty ∷ n ∷ d.stop ∷ [])) a.end a.out.now) cause
    ∙ ap (λ r. put_before (read_text r) a.end a.out.now) (sym c.in-Ok.is)
