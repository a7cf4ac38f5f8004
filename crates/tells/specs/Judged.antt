-- "reading and writing of records": the judges and the decision's reader, of numbers and lent slices alone. Definitions only.
use Rattle.std.specs.Prelude.{Result, Ok, Err, List, [], ◌∷◌, ◌++◌, ℕ}
use Rattle.bits.specs.Fields.{bit}
use Rattle.refusal.specs.Lowest.{Rule, lowest}
use Rattle.refusal.specs.Number.{number_of, number_of_verdict, told}
use Rattle.refusal.specs.Written.{no_room, written}
use Rattle.refusal.specs.declared.Refusal.{Refusal}
use Rattle.refusal.specs.declared.Refusal.TheVariants.{NoRoom}
use Rattle.consist.specs.Consist as consist
use Rattle.profile.specs.Profile as profile
use Rattle.targets.specs.Targets as targets
use Rattle.sample.specs.Sample as sample
use Rattle.decision.specs.declared.Decision.{Decision}
use Rattle.decision.specs.Decision as decision

-- of an answer, whatever it hands back
abbrev pub number_in : {A : Type 0} → Result A Refusal → ℕ
number_in (Ok a) = 0
number_in (Err r) = number_of r

-- 2, 4, 5 and 13: "a consist under 16 bytes" (02, R-1), "a consist or decision field out of its range", "weight under 10 tons a car",
-- "blocks that break these rules, their byte count included"
unfoldable pub consist_judged : List ℕ → ℕ
consist_judged s = number_of_verdict (lowest (consist.read_rules s))

-- 6: "the profile breaks any rule above, its byte count included"
unfoldable pub profile_judged : List ℕ → ℕ
profile_judged p = number_of_verdict (lowest (profile.judge_rules p))

-- 7: "the targets break any rule above, their byte count included"
unfoldable pub targets_judged : List ℕ → ℕ
targets_judged t = number_of_verdict (lowest (targets.judge_rules t))

-- "The sample reader's numbers are 2, 3 and 8."
unfoldable pub sample_judged : List ℕ → ℕ
sample_judged s = number_of_verdict (lowest (sample.read_rules s))

-- ---- the decision

-- five: time, brake state, penalty (1 or 0), cause, stopping location; of a second record the last three are the emergency's
abbrev pub decision_numbers : ℕ
decision_numbers = 5

abbrev pub numbers_of : Decision → List ℕ
numbers_of d = d.time ∷ d.state ∷ bit d.penalty ∷ d.cause ∷ d.stop ∷ []

-- 2, 3 and 4; then 12, room for fewer than five numbers
abbrev pub decision_rules : List ℕ → List ℕ → List Rule
decision_rules s numbers = decision.read_rules s ++ (no_room decision_numbers numbers, NoRoom) ∷ []

unfoldable pub decision_as_read : List ℕ → List ℕ → ℕ × List ℕ
decision_as_read s numbers = told (written (lowest (decision_rules s numbers)) (numbers_of (decision.decision_in s)) numbers)
