-- Opening: "Opening uses 2, 4 and 5; if refused, an earlier session stays as it was." Document 02's R-1 adds 13, R-7 a choice, and no refusal.
-- Definitions only.
use Rattle.std.specs.Prelude.{true, List, ℕ}
use Rattle.refusal.specs.Steps.{kept}
use Rattle.refusal.specs.Verdict.{Verdict}
use Rattle.consist.specs.declared.Consist.{Consist}
use Rattle.consist.specs.Consist.{read_consist}
use Rattle.brake.specs.declared.Choice.{Choice}
use Rattle.brake.specs.Brake.{at_opening}
use Rattle.learn.specs.Stage as learn
use Rattle.session.specs.declared.Session.{Session}
use Rattle.session.specs.Session.{Answer, answer}

-- "Opening gives state 0, hold = A = set, B = 0"; no penalty and no emergency stands; what was learnt is forgotten
abbrev pub opened_with : Consist → Choice → Session
opened_with c choice = record { opened = true; consist = c; brake = at_opening c choice; learner = learn.at_opening; cause = 0; emergency = 0 }

abbrev pub opened_by : Session → Verdict × Consist → Choice → Answer
opened_by x read choice = answer (kept read.0 (opened_with read.1 choice) x) read.0

unfoldable pub open_of : Session → List ℕ → Choice → Answer
open_of x s choice = opened_by x (read_consist s) choice
