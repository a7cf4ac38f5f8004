-- What the steps of a sample call find on their way. Definitions only.
use Rattle.std.specs.Prelude.{List, ℕ}
use Rattle.refusal.specs.Lowest.{Rule}
use Rattle.sample.specs.declared.Sample.{Sample}
use Rattle.admission.specs.Steps.{rules_in}
use Rattle.session.specs.declared.Session.{Session}
use Rattle.sampling.specs.declared.After.{After}
use Rattle.sampling.specs.Sample.{open_first, session_after, decision_of, emergency_decision_of}

-- the table's lines before the walk
abbrev pub rules_before : Session → (s p t : List ℕ) → List Rule
rules_before x s p t = open_first x (rules_in x.consist x.brake s p t)

-- what an accepted sample makes of the session
abbrev pub after_of : Session → Sample → List ℕ → List ℕ → After
after_of x m p t = record { session = session_after x m p t; decision = decision_of x m p t; emergency = emergency_decision_of x m p t }
