-- "as in the record": of decisions that were written their own lines are printed, the first record's first, and never a refusal. A statement;
-- proofs/Printed.antt proves it.
use Rattle.std.specs.Prelude.{◌≡◌, List, ◌++◌, ℕ}
use Rattle.refusal.specs.Verdict.{Accepted}
use Rattle.decision.specs.declared.Decision.{Decision}
use Rattle.decision.specs.Decision.{write_both}
use Rattle.line.specs.Line.{decision_text, sample_text}

unfoldable pub WrittenIsPrinted : Type 0
WrittenIsPrinted =
    (d e : Decision) (out : List ℕ) → (write_both d e out).0 ≡ Accepted → sample_text Accepted (write_both d e out).1 ≡ decision_text d ++ decision_text e
