-- What is written is printed, since it reads back. Assumes nothing.
use mathlib.Core.Path.{ap₂}
use mathlib.Core.List.{◌++◌}
use Rattle.refusal.specs.Verdict.{Verdict}
use Rattle.decision.specs.declared.Decision.{Decision}
use Rattle.decision.specs.RoundTrip.{BothReadBack}
use Rattle.decision.proofs.RoundTrip.{both_read_back}
use Rattle.line.specs.Line.{record_text}
use Rattle.feed.specs.Printed.{WrittenIsPrinted}

pub written_is_printed : WrittenIsPrinted
unfolding WrittenIsPrinted BothReadBack
written_is_printed d e out h =
    let both = both_read_back d e out h in
    ap₂ (λ (x y : Verdict × Decision). record_text x ++ record_text y) both.0 both.1
