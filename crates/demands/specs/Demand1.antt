-- "No input may break it. Each public call tests all it is given, and every refusal carries one number from the table. A refused call changes
-- neither the session nor one byte of the output, and a refusal is given exactly on its stated condition."
-- Statements; proofs/Demand1.antt proves them.
use Rattle.std.specs.Prelude.{◌≡◌, Bool, true, false, ◌||◌, List, [], ◌∷◌, map, ◌↔◌, ℕ, eqb, ℤ}
use Rattle.refusal.specs.declared.Refusal.{Refusal}
use Rattle.refusal.specs.declared.Refusal.TheVariants.{NoSession, WrongLength, WrongMark, OutOfRange, TooLight, BrokenProfile, BrokenTargets, BadReading, WrongTime, NotCovered, NoRoom, BrokenBlocks}
use Rattle.refusal.specs.Verdict.{Verdict, Accepted, Refused}
use Rattle.refusal.specs.Number.{number_of, told}
use Rattle.refusal.specs.Lowest.{Rule}
use Rattle.refusal.specs.Exactly.{Applies, Lowest}
use Rattle.consist.specs.declared.Consist.{Consist}
use Rattle.consist.specs.Consist as consist
use Rattle.profile.specs.Profile as profile
use Rattle.targets.specs.Targets as targets
use Rattle.sample.specs.declared.RawSample.{RawSample}
use Rattle.sample.specs.Sample as sample
use Rattle.decision.specs.declared.Decision.{Decision}
use Rattle.decision.specs.Decision as decision
use Rattle.brake.specs.declared.Choice.{Choice}
use Rattle.session.specs.declared.Session.{Session}
use Rattle.session.specs.Session.{none_open}
use Rattle.session.specs.Open.{open_of}
use Rattle.sampling.specs.Sample.{rules, sample_call}
use Rattle.held.specs.Held as held
use Rattle.lent.specs.Lent.{open_rules, sample_rules, open_bytes, sample_bytes}
use Rattle.writes.specs.Written.{manifest_rules, write_manifest, sample_write_rules, sample_written}
use Rattle.tells.specs.Judged.{decision_rules, decision_as_read}
use Rattle.demands.specs.Calls.{Calls}
use Rattle.demands.specs.Eleven.{Eleven}

-- ---- "every refusal carries one number from the table"

abbrev pub among : ℕ → List ℕ → Bool
among n [] = false
among n (m ∷ ms) = eqb n m || among n ms

abbrev pub table_numbers : List ℕ
table_numbers = 1 ∷ 2 ∷ 3 ∷ 4 ∷ 5 ∷ 6 ∷ 7 ∷ 8 ∷ 9 ∷ 10 ∷ 12 ∷ 13 ∷ []

-- the refusals have the numbers 1 to 10, 12 and 13, and no two share one
pub record Table : Type 0 where
  pub in_order :
      map number_of
      (NoSession ∷ WrongLength ∷ WrongMark ∷ OutOfRange ∷ TooLight ∷ BrokenProfile ∷ BrokenTargets ∷ BadReading ∷ WrongTime ∷ NotCovered ∷ NoRoom ∷ BrokenBlocks ∷ [])
      ≡ table_numbers
  pub no_other : (r : Refusal) → among (number_of r) table_numbers ≡ true
  pub apart : (r s : Refusal) → number_of r ≡ number_of s → r ≡ s

-- ---- what is said of an answer: whether it accepts or refuses, and what it hands back or leaves

-- to a call with these rules, each a condition and the refusal given on it; `before` is what the call may change, as it was
module _ {S : Type 0} (numbers : List ℕ) (rules : List Rule) (before : S) where
  pub record RefusesBy {A : Type 0} (accepted : A) (refused : Refusal → A) (answer : A × S) : Type 0 where
    -- the lines of the table that the call has
    pub lines : map (λ rule. number_of rule.1) rules ≡ numbers
    -- "a refusal is given exactly on its stated condition", of several the lowest, and none where no condition holds
    pub exactly : (q : Refusal) → (answer.0 ≡ refused q) ↔ Lowest rules q
    pub else_accepted : (answer.0 ≡ accepted) ↔ ((q : Refusal) → Applies q rules → ⊥)
    -- so its number is one of these
    pub numbered : (q : Refusal) → answer.0 ≡ refused q → among (number_of q) numbers ≡ true
    -- "A refused call changes neither the session nor one byte of the output"; of a reader, `before` is one fixed value
    pub unchanged : (q : Refusal) → answer.0 ≡ refused q → answer.1 ≡ before

  abbrev pub Refuses : Verdict × S → Type 0
  Refuses answer = RefusesBy Accepted Refused answer

  -- for C: a refusal is told as its number, and 0 is none
  abbrev pub RefusesC : ℕ × S → Type 0
  RefusesC answer = RefusesBy 0 number_of answer

-- ---- of each call, by its definition (`is` of specs/Calls.antt)

pub record Demand1 : Type 2 where
  -- "No input may break it": each call's `met` and `asks_nothing`
  pub calls : Calls
  pub table : Table
  pub eleven : (x : Session) (s p t out : List ℕ) → Eleven x s p t out
  pub consist_read : (s : List ℕ) → Refuses (2 ∷ 4 ∷ 5 ∷ 13 ∷ []) (consist.read_rules s) consist.none (consist.read_consist s)
  pub consist_write : (c : Consist) (out : List ℕ) → Refuses (4 ∷ 5 ∷ 12 ∷ 13 ∷ []) (consist.write_rules c out) out (consist.write_consist c out)
  pub manifest_write : (c : Consist) (lengths weights out : List ℕ)
      → Refuses (4 ∷ 5 ∷ 12 ∷ 13 ∷ []) (manifest_rules c lengths weights out) out (write_manifest c lengths weights out)
  pub profile_judge : (p : List ℕ) → Refuses (6 ∷ []) (profile.judge_rules p) 0 (profile.judge_profile p)
  pub profile_write : (starts : List ℕ) (grades : List ℤ) (curvatures out : List ℕ)
      → Refuses (6 ∷ 12 ∷ []) (profile.write_rules starts grades curvatures out) out (profile.write_profile starts grades curvatures out)
  pub targets_judge : (t : List ℕ) → Refuses (7 ∷ []) (targets.judge_rules t) 0 (targets.judge_targets t)
  pub targets_write : (locations speeds out : List ℕ)
      → Refuses (7 ∷ 12 ∷ []) (targets.write_rules locations speeds out) out (targets.write_targets locations speeds out)
  pub sample_lay_out : (s : List ℕ) → Refuses (2 ∷ 3 ∷ []) (sample.layout_rules s) sample.none (sample.lay_out s)
  pub sample_judge : (raw : RawSample) → Refuses (8 ∷ []) (sample.judge_rules raw) sample.no_sample (sample.judge_sample raw)
  pub sample_read : (s : List ℕ) → Refuses (2 ∷ 3 ∷ 8 ∷ []) (sample.read_rules s) sample.none (sample.read_sample s)
  pub sample_write : (raw : RawSample) (out : List ℕ) → Refuses (4 ∷ 8 ∷ 12 ∷ []) (sample.write_rules raw out) out (sample.write_sample raw out)
  pub decision_read : (s : List ℕ) → Refuses (2 ∷ 3 ∷ 4 ∷ []) (decision.read_rules s) decision.none (decision.read_decision s)
  pub decision_write : (d : Decision) (out : List ℕ) → Refuses (4 ∷ 12 ∷ []) (decision.write_rules d out) out (decision.write_decision d out)
  pub session_open : (x : Session) (s : List ℕ) (choice : Choice)
      → Refuses (2 ∷ 4 ∷ 5 ∷ 13 ∷ []) (consist.read_rules s) x ((open_of x s choice).verdict, (open_of x s choice).session)
  pub session_sample : (x : Session) (s p t out : List ℕ) →
      let (a, bytes) = sample_call x s p t out in
      Refuses {S = Session × List ℕ} (1 ∷ 2 ∷ 3 ∷ 6 ∷ 7 ∷ 8 ∷ 9 ∷ 10 ∷ 12 ∷ []) (rules x s p t out) (x, out) (a.verdict, (a.session, bytes))
  pub held_read : (s : List ℕ) → Refuses (1 ∷ []) (held.read_rules s) none_open (held.read_session s)
  pub stored_write : (x : Session) (out : List ℕ) → Refuses (1 ∷ 12 ∷ []) (held.write_rules x out) out (held.write_session x out)
  -- for C the same holds of a definition above, told; four calls have a definition of their own
  pub told : {S : Type 0} {numbers : List ℕ} {rules : List Rule} {before : S} (answer : Verdict × S)
      → Refuses numbers rules before answer → RefusesC numbers rules before (told answer)
  -- by either of the two openings
  pub buongilach_open : (consist session : List ℕ) (choice : Choice)
      → RefusesC (2 ∷ 4 ∷ 5 ∷ 12 ∷ 13 ∷ []) (open_rules consist session) session (open_bytes consist session choice)
  pub buongilach_sample : (session s p t decision : List ℕ) →
      let (n, x, d) = sample_bytes session s p t decision in
      RefusesC {S = List ℕ × List ℕ} (1 ∷ 2 ∷ 3 ∷ 6 ∷ 7 ∷ 8 ∷ 9 ∷ 10 ∷ 12 ∷ []) (sample_rules session s p t decision) (session, decision) (n, (x, d))
  pub buongilach_write_sample : (fields out : List ℕ) → RefusesC (3 ∷ 4 ∷ 8 ∷ 12 ∷ []) (sample_write_rules fields out) out (sample_written fields out)
  pub buongilach_read_decision : (s numbers : List ℕ) → RefusesC (2 ∷ 3 ∷ 4 ∷ 12 ∷ []) (decision_rules s numbers) numbers (decision_as_read s numbers)
