use Rattle.std.proofs.Common.{◌≡◌, ◌∙◌, sym, ap, arith, Bool, true, Result, Ok, Err}
use borrow.Author.Tests.{eqb-false}
use Rattle.feed.proofs.Known.{known_as}
use Rattle.feed.proofs.Turns.{turn_on, turn_last, turn_none}
use Rattle.feed.proofs.answer_one.Goals as goal

-- the value of an answer
abbrev value : {E : Type 0} → Result Bool E → Bool
value (Ok b) = b
value (Err e) = true

pub returns-then-n-eq0-clause-last : goal.returns-then-n-eq0-clause-last
returns-then-n-eq0-clause-last g c e =
    known_as _ _ _ _ _ c.fill-n.ensures.bytes (λ xs f. turn_none _ _ _ xs _ _ _ f (sym c.fill-n.ensures.count.1 ∙ c.if-n-eq0.true))

pub returns-clause-more : goal.returns-clause-more
returns-clause-more g c e =
    known_as _ _ _ _ _ c.fill-n.ensures.bytes
    (λ xs f. turn_on _ _ _ xs _ _ _ _ _ _ _ _ f (omega (arith, c.fill-n.ensures.count.1, c.if-n-eq0.false)) c.sample-verdict.ensures c.of_sample.ensures c.in_ok-print.ensures)

pub returns-clause-last : goal.returns-clause-last
returns-clause-last g c e =
    let short : c.fill-n.result ≡ 20 → ⊥ = eqb-false c.fill-n.result 20 (ap value e) in
    known_as _ _ _ _ _ c.fill-n.ensures.bytes
    (λ xs f. turn_last _ _ _ xs _ _ _ _ _ f (omega (arith, c.fill-n.ensures.count, short))
    (turn_on _ _ _ xs _ _ _ _ _ _ _ _ f (omega (arith, c.fill-n.ensures.count.1, c.if-n-eq0.false)) c.sample-verdict.ensures c.of_sample.ensures c.in_ok-print.ensures))
