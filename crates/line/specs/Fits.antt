-- What is printed at once fits the bytes that are kept for it. A statement; proofs/Fits.antt proves it.
use Rattle.std.specs.Prelude.{◌≤◌, ℕ, List, length}
use Rattle.refusal.specs.Verdict.{Verdict}
use Rattle.line.specs.Line.{sample_text}
use Rattle.line.specs.declared.TheConstants.{ROOM}

unfoldable pub LinesFit : Type 0
LinesFit = (v : Verdict) (s : List ℕ) → length (sample_text v s) ≤ ROOM
