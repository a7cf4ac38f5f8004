-- A session in lent bytes, its buffer, which begins with its record, as crate `held` defines it: opening, a sample call, whether an open session's
-- record stands there, and its application time. Definitions only.
use Rattle.std.specs.Prelude.{Bool, not, ◌&&◌, ◌||◌, cond, List, [], ◌∷◌, ◌++◌, ℕ, ltb, leb, eqb, take, replicate}
use Rattle.refusal.specs.Lowest.{Rule, lowest}
use Rattle.refusal.specs.Number.{number_of, number_of_verdict, told}
use Rattle.refusal.specs.Written.{no_room, written}
use Rattle.refusal.specs.declared.Refusal.TheVariants.{NoSession, WrongLength, NoRoom, BrokenBlocks}
use Rattle.refusal.specs.Verdict.{Verdict, Accepted, Refused}
use Rattle.consist.specs.Consist.{consist_in, too_short, rules, broken_behind}
use Rattle.brake.specs.declared.Choice.{Choice}
use Rattle.session.specs.declared.Session.{Session}
use Rattle.session.specs.Session.{Answer}
use Rattle.session.specs.Open.{opened_with}
use Rattle.sampling.specs.Sample.{lines_of, sample_call}
use Rattle.held.specs.Held.{most, record_at, session_in, bytes_of, no_session, read_session}

-- a session's buffer: its record, and zeros behind it, 326 bytes in all
abbrev pub zeros : ℕ → List ℕ
zeros n = replicate n 0

unfoldable pub buffer_of : Session → List ℕ
buffer_of x = take most (bytes_of x ++ zeros most)

-- "Opening uses 2, 4 and 5"; then 12, for a writer, under what it writes, which is one size for all; then 13
abbrev pub open_rules : (consist session : List ℕ) → List Rule
open_rules consist session =
    (too_short consist, WrongLength) ∷ rules (consist_in consist) ++ (no_room most session, NoRoom) ∷ (broken_behind consist, BrokenBlocks) ∷ []

-- 1, of the record that the buffer begins with; then the table's lines of its session
abbrev pub sample_rules : (session sample profile targets decision : List ℕ) → List Rule
sample_rules session sample profile targets decision =
    (no_session (record_at session), NoSession) ∷ lines_of (session_in (record_at session)) sample profile targets decision

-- the new session's buffer, and the bytes past it as they were; "if refused, an earlier session stays as it was"
unfoldable pub open_bytes : (consist session : List ℕ) → Choice → ℕ × List ℕ
open_bytes consist session choice = told (written (lowest (open_rules consist session)) (buffer_of (opened_with (consist_in consist) choice)) session)

-- for an inner contract: what an opening is told where its consist, by itself, is told this; of several the lowest, and 0 is none
abbrev pub with_room : (told room : ℕ) → ℕ
with_room told room = let full = number_of NoRoom in cond (ltb room most && (eqb told 0 || leb full told)) full told

-- what a sample call tells and leaves: the number, the session's bytes and the decisions'
abbrev pub Sampled : Type 0
Sampled = ℕ × List ℕ × List ℕ

-- the buffer of the session from now on, and the decisions
abbrev pub call_bytes : Answer × List ℕ → List ℕ → Sampled
call_bytes answer session =
    (number_of_verdict answer.0.verdict, (written answer.0.verdict (buffer_of answer.0.session) session).1, answer.1)

-- 1: "a sample is offered and no session is open"; of what the record is read as
abbrev pub sampled_by : Verdict → Session → (session sample profile targets decision : List ℕ) → Sampled
sampled_by Accepted x session sample profile targets decision = call_bytes (sample_call x sample profile targets decision) session
sampled_by (Refused r) x session sample profile targets decision = (number_of r, session, decision)

unfoldable pub sample_bytes : (session sample profile targets decision : List ℕ) → Sampled
sample_bytes session sample profile targets decision =
    sampled_by (read_session (record_at session)).0 (read_session (record_at session)).1 session sample profile targets decision

-- whether the buffer begins with an open session's record
unfoldable pub is_open_bytes : List ℕ → Bool
is_open_bytes session = not (no_session (record_at session))

-- R-3: the application time in force, in ms, which the consist carries; 0 where no session is open
unfoldable pub application_bytes : List ℕ → ℕ
application_bytes session = cond (is_open_bytes session) (session_in (record_at session)).consist.application 0
