-- A line and a sample's two lines fit the bytes that they are put into. Assumes nothing.
use Prim.Native.Nat.{ℕ, ◌+◌, ◌^◌, ◌<◌, ◌≤◌}
use native.Mathlib.Omega.{arith}
use mathlib.Core.Path.{◌≡◌, refl}
use mathlib.Core.List.{List, [], ◌∷◌, ◌++◌}
use lib.ListN.{length, length-append}
use Rattle.std.specs.Prelude.{Result, Ok, Err, Option, Some, None}
use Rattle.bits.specs.Fields.{bit}
use Rattle.bits.specs.Bytes.{num}
use Rattle.bits.proofs.Fields.{split_fit}
use Rattle.bits.proofs.Bit.{bit_fits}
use Rattle.refusal.specs.declared.Refusal.{Refusal}
use Rattle.refusal.specs.declared.Refusal.TheVariants.{NoSession, WrongLength, WrongMark, OutOfRange, TooLight, BrokenProfile, BrokenTargets, BadReading, WrongTime, NotCovered, NoRoom, BrokenBlocks}
use Rattle.refusal.specs.Verdict.{Verdict, Accepted, Refused}
use Rattle.refusal.specs.Lowest.{lowest}
use Rattle.refusal.specs.Number.{number_of}
use Rattle.decision.specs.declared.Decision.{Decision}
use Rattle.decision.specs.Decision.{widths, decision_in, read_rules, answer, read_decision}
use Rattle.line.specs.Line.{spaced, decision_text, refusal_text, record_text, first_record, second_record, sample_text, read_text, line_text, second_text, lines_text, line_room, room}
use Rattle.line.specs.declared.Line.{Line}
use Rattle.line.specs.declared.Lines.{Lines}
use Rattle.line.specs.Fits.{LinesFit}
use Rattle.line.proofs.Decimal.{ten_digits}

-- a number of 32 bits and the byte after it are at most eleven bytes
more : (n : ℕ) (ns : List ℕ) → n < 2 ^ 32 → length (spaced (n ∷ ns)) ≤ 11 + length (spaced ns)
more n ns h = simp length-append (omega (arith, ten_digits n h))

pub number_fits : (r : Refusal) → number_of r < 2 ^ 32
number_fits NoSession = omega arith
number_fits WrongLength = omega arith
number_fits WrongMark = omega arith
number_fits OutOfRange = omega arith
number_fits TooLight = omega arith
number_fits BrokenProfile = omega arith
number_fits BrokenTargets = omega arith
number_fits BadReading = omega arith
number_fits WrongTime = omega arith
number_fits NotCovered = omega arith
number_fits NoRoom = omega arith
number_fits BrokenBlocks = omega arith

pub refusal_fits : (r : Refusal) → length (refusal_text r) ≤ line_room
unfolding refusal_text
refusal_fits r = omega (arith, more (number_of r) [] (number_fits r))

-- five numbers, each with a byte after it
pub decision_fits : (d : Decision) → d.time < 2 ^ 32 → d.state < 2 ^ 32 → d.cause < 2 ^ 32 → d.stop < 2 ^ 32 → length (decision_text d) ≤ line_room
unfolding decision_text
decision_fits d time_fits state_fits cause_fits stop_fits =
    let stop = more d.stop [] stop_fits in
    let cause = more d.cause (d.stop ∷ []) cause_fits in
    let penalty = more (bit d.penalty) (d.cause ∷ d.stop ∷ []) (omega (arith, bit_fits d.penalty)) in
    let state = more d.state (bit d.penalty ∷ d.cause ∷ d.stop ∷ []) state_fits in
    omega (arith, more d.time (d.state ∷ bit d.penalty ∷ d.cause ∷ d.stop ∷ []) time_fits)

-- the numbers of a decision are of 32 bits
abbrev pub InRange : Decision → Type 0
InRange d = (d.time < 2 ^ 32) × (d.state < 2 ^ 32) × (d.cause < 2 ^ 32) × (d.stop < 2 ^ 32)

pub line_fits : (l : Line) → ((d : Decision) → l.0 ≡ Ok d → InRange d) → length (line_text l) ≤ line_room
line_fits l in_range = by l.0 refl
  where
    by : (r : Result Decision Refusal) → l.0 ≡ r → length (read_text r) ≤ line_room
    by (Ok d) is = let h = in_range d is in decision_fits d h.0 h.1 h.2 h.3
    by (Err r) is = refusal_fits r

pub two_fit : (l : Lines) → ((d : Decision) → l.first.0 ≡ Ok d → InRange d) → ((m : Line) (d : Decision) → l.second ≡ Some m → m.0 ≡ Ok d → InRange d)
    → length (lines_text l) ≤ room
two_fit l first_in second_in = by l.second refl
  where
    by : (s : Option Line) → l.second ≡ s → length (line_text l.first ++ second_text s) ≤ room
    by None is = omega (arith, length-append (line_text l.first) [], line_fits l.first first_in)
    by (Some m) is = omega (arith, length-append (line_text l.first) (line_text m), line_fits l.first first_in, line_fits m (λ d. second_in m d is))

pub record_fits : (s : List ℕ) → length (record_text (read_decision s)) ≤ line_room
unfolding read_decision decision_in
record_fits s = by (lowest (read_rules s))
  where
    by : (v : Verdict) → length (record_text (answer v (decision_in s))) ≤ line_room
    by (Refused r) = refusal_fits r
    by Accepted =
        let f = split_fit widths (num s) in
        decision_fits (decision_in s) (omega arith) (omega arith) (omega arith) (omega arith)

pub sample_fits : (v : Verdict) (s : List ℕ) → length (sample_text v s) ≤ room
sample_fits (Refused r) s = omega (arith, refusal_fits r)
sample_fits Accepted s =
    let first = record_text (read_decision (first_record s)) in
    let second = record_text (read_decision (second_record s)) in
    omega (arith, length-append first second, record_fits (first_record s), record_fits (second_record s))

pub lines_fit : LinesFit
unfolding LinesFit
lines_fit v s = omega (arith, sample_fits v s)
