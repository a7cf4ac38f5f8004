-- What the session program prints: a line for each decision of a sample, and one for a refusal. Definitions only.
use Rattle.std.specs.Prelude.{ℕ, zero, suc, ◌+◌, ◌-◌, ◌*◌, ◌/◌, ◌%◌, List, [], ◌∷◌, ◌++◌, Bool, true, false, length, take, drop, ltb, Result, Ok, Err, Option, Some, None}
use Rattle.refusal.specs.declared.Refusal.{Refusal}
use Rattle.refusal.specs.Verdict.{Verdict, Accepted, Refused}
use Rattle.refusal.specs.Number.{number_of}
use Rattle.decision.specs.declared.Decision.{Decision}
use Rattle.bits.specs.Fields.{bit}
use Rattle.decision.specs.Decision.{size, read_decision}
use Rattle.line.specs.declared.Line.{Line}
use Rattle.line.specs.declared.Lines.{Lines}

-- ---- the text

abbrev pub newline : ℕ
newline = 10

abbrev pub space : ℕ
space = 32

-- `x`
abbrev pub cross : ℕ
cross = 120

-- the character of a digit
abbrev pub glyph : ℕ → ℕ
glyph d = 48 + d

-- nothing stands before the digit of a number below ten
abbrev pub unless_below : Bool → List ℕ → List ℕ
unless_below true front = []
unless_below false front = front

-- the digits of n, at most k of them: those of its tenth, unless n is below ten, and after them the last
unfoldable pub last_digits : ℕ → ℕ → List ℕ
last_digits zero n = []
last_digits (suc k) n = let front = last_digits k (n / 10) in unless_below (ltb n 10) front ++ glyph (n % 10) ∷ []

-- "decimal": all the digits of n, which are at most n + 1
unfoldable pub decimal : ℕ → List ℕ
decimal n = last_digits (suc n) n

-- what stands between a number and the rest of its line; "Every line ends with a newline."
abbrev pub separator : List ℕ → ℕ
separator [] = newline
separator (n ∷ ns) = space

-- "decimal, single spaces"
abbrev pub spaced : List ℕ → List ℕ
spaced [] = []
spaced (n ∷ ns) = decimal n ++ separator ns ∷ spaced ns

-- "time, state, penalty, cause, stopping location as in the record"
unfoldable pub decision_text : Decision → List ℕ
decision_text d = spaced (d.time ∷ d.state ∷ bit d.penalty ∷ d.cause ∷ d.stop ∷ [])

-- "`x` and the number"
unfoldable pub refusal_text : Refusal → List ℕ
refusal_text r = cross ∷ space ∷ spaced (number_of r ∷ [])

-- by a verdict: the text where it accepts, "or `x` and the number"
abbrev pub unless_refused : Verdict → List ℕ → List ℕ
unless_refused Accepted text = text
unless_refused (Refused r) text = refusal_text r

-- the line of what is read back from a record
abbrev pub record_text : Verdict × Decision → List ℕ
record_text answer = unless_refused answer.0 (decision_text answer.1)

-- the records that the bytes of a sample's decisions hold: "A second decision record follows the first" (02, R-5)
abbrev pub first_record : List ℕ → List ℕ
first_record s = take size s

abbrev pub second_record : List ℕ → List ℕ
second_record s = take size (drop size s)

-- "Each sample prints one line"; of the second record "The session program prints it as a second line alike": both, where the call was accepted
abbrev pub sample_text : Verdict → List ℕ → List ℕ
sample_text v s = unless_refused v (record_text (read_decision (first_record s)) ++ record_text (read_decision (second_record s)))

-- ---- the same of what the code prints

abbrev pub read_text : Result Decision Refusal → List ℕ
read_text (Ok d) = decision_text d
read_text (Err r) = refusal_text r

abbrev pub line_text : Line → List ℕ
line_text l = read_text l.0

abbrev pub second_text : Option Line → List ℕ
second_text None = []
second_text (Some l) = line_text l

abbrev pub lines_text : Lines → List ℕ
lines_text l = line_text l.first ++ second_text l.second

-- ---- where it stands: the text before a place of the lent bytes, the place where it begins, and no other byte changed

unfoldable pub put_before : List ℕ → ℕ → List ℕ → ℕ × List ℕ
put_before text end out = (end - length text, take (end - length text) out ++ (text ++ drop end out))

-- at the end of the lent bytes
abbrev pub put_last : List ℕ → List ℕ → ℕ × List ℕ
put_last text out = put_before text (length out) out

-- bytes that hold any line: five numbers of 32 bits, so of up to ten digits, each with a byte after it
abbrev pub line_room : ℕ
line_room = 5 * 11

-- bytes that hold a sample's two lines
abbrev pub room : ℕ
room = 2 * line_room
