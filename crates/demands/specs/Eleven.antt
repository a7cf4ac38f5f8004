-- Document 02's R-10, "A refusal in no log": document 01's table with its line 11, "the walk's squared speed exceeds 1,000,000,000", gives no other
-- answer than the table without it: "all other answers stand". A statement; proofs/Eleven.antt proves it.
use Rattle.std.specs.Prelude.{◌≡◌, Bool, true, false, cond, List, [], ◌∷◌, ◌++◌, map, ℕ}
use Rattle.refusal.specs.Verdict.{Accepted}
use Rattle.refusal.specs.Number.{number_of, number_of_verdict}
use Rattle.refusal.specs.Lowest.{Rule}
use Rattle.refusal.specs.Written.{no_room}
use Rattle.sample.specs.Sample.{raw_in, layout_rules}
use Rattle.decision.specs.Decision.{both_size}
use Rattle.walk.specs.Walk.{Arrival}
use Rattle.laws.specs.Crossing.{crossing_for}
use Rattle.laws.specs.Tested.{Tested, refused, answered, tested_for}
use Rattle.judge.specs.Approach.{Approach, force, ground, arrival_of}
use Rattle.judge.specs.Emergency.{Emergency, emergency_force, emergency_arrival}
use Rattle.admission.specs.Table.{wrong_time, lines_before}
use Rattle.session.specs.declared.Session.{Session}
use Rattle.sampling.specs.Sample.{sample_in, approach, emergency, open_first, sample_call}

-- a line of the table: whether its condition holds, and its number
abbrev pub Line : Type 0
Line = Bool × ℕ

abbrev pub numbered : Rule → Line
numbered rule = (rule.0, number_of rule.1)

-- "Where several apply, the lowest number is returned.": of lines in the order of their numbers the first, and 0 where none applies
unfoldable pub first_line : List Line → ℕ
first_line [] = 0
first_line (line ∷ lines) = cond line.0 line.1 (first_line lines)

-- document 01's location for a target speed, and its walk with the test, of an approach
abbrev pub crossing_of : Approach → ℕ → Arrival
crossing_of x u = crossing_for x.consist (force x) (ground x) x.head x.speed u

abbrev pub tested : Approach → ℕ → Tested
tested x u = tested_for x.consist (force x) (ground x) x.head x.speed u

abbrev pub tested_emergency : Emergency → Tested
tested_emergency e = let x = e.approach in tested_for x.consist (emergency_force e) (ground x) x.head x.speed 0

abbrev pub is_refused : Tested → Bool
is_refused refused = true
is_refused (answered a) = false

-- document 01's table for a sample call: 1; 2 on, before the walk; 11, by the walk to the stop; 12, as R-5 has it
abbrev pub table_with_eleven : Session → (s p t out : List ℕ) → List Line
table_with_eleven x s p t out =
    map numbered (open_first x (layout_rules s ++ lines_before x.consist (wrong_time x.brake (sample_in s)) (raw_in s) p t))
    ++ (is_refused (tested (approach x (sample_in s) p) 0), 11)
    ∷ (no_room both_size out, 12)
    ∷ []

pub record Eleven (x : Session) (s p t out : List ℕ) : Type 0 where
  -- its number is the call's
  pub answers : first_line (table_with_eleven x s p t out) ≡ number_of_verdict (sample_call x s p t out).0.verdict
  -- and of an accepted sample document 01's walk finds the stop that the prediction does
  pub stop : (sample_call x s p t out).0.verdict ≡ Accepted →
      tested (approach x (sample_in s) p) 0 ≡ answered (arrival_of (approach x (sample_in s) p) 0)
  -- and for every target speed the location that it finds without the test
  pub crossings : (sample_call x s p t out).0.verdict ≡ Accepted → (u : ℕ) →
      tested (approach x (sample_in s) p) u ≡ answered (crossing_of (approach x (sample_in s) p) u)
  -- and by emergency air too
  pub emergency_arrival_lem : (sample_call x s p t out).0.verdict ≡ Accepted →
      tested_emergency (emergency x (sample_in s) p) ≡ answered (emergency_arrival (emergency x (sample_in s) p))
