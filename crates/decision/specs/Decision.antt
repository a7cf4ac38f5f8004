-- "Decision, 8 bytes": the layout, its reader and its writer, and of a sample call's two records the writer. Definitions only.
use Rattle.std.specs.Prelude.{ℕ, ◌^◌, List, [], ◌∷◌, ◌++◌, Bool, false, not, ◌||◌, cond, get_or, leb, ltb, eqb}
use Rattle.std.specs.Bool.{beq}
use Rattle.bits.specs.Fields.{bit}
use Rattle.bits.specs.Bytes.{fields_in, bytes_from}
use Rattle.record.specs.Location.{farthest, no_stop}
use Rattle.record.specs.Record.{wrong_length}
use Rattle.refusal.specs.Lowest.{Rule, lowest}
use Rattle.refusal.specs.Written.{no_room, written}
use Rattle.refusal.specs.declared.Refusal.TheVariants.{WrongLength, WrongMark, OutOfRange, NoRoom}
use Rattle.refusal.specs.Verdict.{Verdict, Refused}
use Rattle.refusal.specs.declared.Refusal.{Refusal}
use Rattle.refusal.specs.Steps.{kept}
use Rattle.decision.specs.declared.Decision.{Decision}

-- 8 bytes
abbrev pub size : ℕ
size = 8

-- "mark 8 (0x44)"
abbrev pub mark : ℕ
mark = 0x44

-- "A second decision record follows the first with mark 0x45, its penalty bit and cause now meaning emergency" (02, R-5)
abbrev pub emergency_mark : ℕ
emergency_mark = 0x45

abbrev pub mark_of : (emergency : Bool) → ℕ
mark_of emergency = cond emergency emergency_mark mark

-- mark, time, brake state, penalty, cause, stopping location
abbrev pub fields_of : Decision → List ℕ
fields_of d = mark_of d.emergency ∷ d.time ∷ d.state ∷ bit d.penalty ∷ d.cause ∷ d.stop ∷ []

abbrev pub widths : List ℕ
widths = 8 ∷ 24 ∷ 3 ∷ 1 ∷ 4 ∷ 24 ∷ []

abbrev pub of_fields : List ℕ → Decision
of_fields fs = record {
  emergency = eqb (get_or fs 0 0) emergency_mark;
  time = get_or fs 1 0;
  state = get_or fs 2 0;
  penalty = eqb (get_or fs 3 0) 1;
  cause = get_or fs 4 0;
  stop = get_or fs 5 0;
}

-- the decision that bytes stand for, and the bytes of a decision
unfoldable pub decision_in : List ℕ → Decision
decision_in s = of_fields (fields_in widths s)

unfoldable pub bytes_of : Decision → List ℕ
bytes_of d = bytes_from size widths (fields_of d)

-- "3 takes 0x45 as right in a decision"
abbrev pub is_mark : ℕ → Bool
is_mark m = eqb m mark || eqb m emergency_mark

-- 3: a wrong mark, of the fields that are read
unfoldable pub wrong_mark : List ℕ → Bool
wrong_mark fs = not (is_mark (get_or fs 0 0))

-- "the penalty bit is 1 exactly when the cause is not 0"
abbrev pub at_odds : Decision → Bool
at_odds d = not (beq d.penalty (not (eqb d.cause 0)))

-- "a location is at most 4,000,000 or the no-stop value"
abbrev pub right_stop : Decision → Bool
right_stop d = leb d.stop farthest || eqb d.stop no_stop

-- 4: a decision field out of its range ("time 24", "State is at most 5", cause "0, or 1 to 8"), penalty and cause at odds too
unfoldable pub out_of_range : Decision → Bool
out_of_range d =
    leb (2 ^ 24) d.time
    || ltb 5 d.state
    || ltb 8 d.cause
    || at_odds d
    || not (right_stop d)

-- what the fields are refused for, and what a reader and a writer refuse alike
abbrev pub wrong : List ℕ → List Rule
wrong fs = (wrong_mark fs, WrongMark) ∷ []

abbrev pub rules : Decision → List Rule
rules d = (out_of_range d, OutOfRange) ∷ []

-- the decision of an answer that refuses
abbrev pub none : Decision
none = record { emergency = false; time = 0; state = 0; penalty = false; cause = 0; stop = 0 }

-- the lowest refusal, or the decision
abbrev pub answer : Verdict → Decision → Verdict × Decision
answer v d = (v, kept v d none)

abbrev pub refused_with : Refusal → Verdict × Decision
refused_with r = answer (Refused r) none

-- 2: a decision read is not 8 bytes
abbrev pub read_rules : List ℕ → List Rule
read_rules s = (wrong_length size s, WrongLength) ∷ wrong (fields_in widths s) ++ rules (decision_in s)

unfoldable pub read_decision : List ℕ → Verdict × Decision
read_decision s = answer (lowest (read_rules s)) (decision_in s)

-- "Writers refuse what the reader would, with its number, touching nothing, and never touch bytes past the record."
abbrev pub write_rules : Decision → List ℕ → List Rule
write_rules d out = rules d ++ (no_room size out, NoRoom) ∷ []

unfoldable pub write_decision : Decision → List ℕ → Verdict × List ℕ
write_decision d out = written (lowest (write_rules d out)) (bytes_of d) out

-- ---- both records of a sample call

-- "A second decision record follows the first"
abbrev pub both_size : ℕ
both_size = 16

unfoldable pub both_bytes : Decision → Decision → List ℕ
both_bytes d e = bytes_of d ++ bytes_of e

-- "12 now means under 16 bytes for a sample call"
abbrev pub both_rules : Decision → Decision → List ℕ → List Rule
both_rules d e out = rules d ++ rules e ++ (no_room both_size out, NoRoom) ∷ []

unfoldable pub write_both : Decision → Decision → List ℕ → Verdict × List ℕ
write_both d e out = written (lowest (both_rules d e out)) (both_bytes d e) out
