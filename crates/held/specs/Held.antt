-- "Held: state, set, hold (pipe pressure), A (average auxiliary reservoir), B (average cylinder), equalization, fall per second, last front, last rear, last time":
-- the record of an open session, its reader and its writer; of R-7 it holds the choice and when the rear was last present, of R-3 what is kept of learning; the consist has the time in force. It has a front of 66 bytes; where the consist has blocks, these follow it. Definitions only.
use Rattle.std.specs.Prelude.{ℕ, zero, suc, ◌+◌, ◌-◌, ◌*◌, List, [], ◌∷◌, ◌++◌, Bool, true, false, not, ◌&&◌, ◌||◌, cond, length, get_or, take, drop, ltb, leb, eqb}
use Rattle.bits.specs.Fields.{bit}
use Rattle.bits.specs.Bytes.{bytes_from}
use Rattle.bits.specs.Places.{fields_from}
use Rattle.refusal.specs.Lowest.{Rule, lowest}
use Rattle.refusal.specs.Steps.{kept}
use Rattle.refusal.specs.Written.{no_room, written}
use Rattle.refusal.specs.declared.Refusal.{Refusal}
use Rattle.refusal.specs.declared.Refusal.TheVariants.{NoSession, NoRoom}
use Rattle.refusal.specs.Verdict.{Verdict, Refused}
use Rattle.record.specs.Record.{wrong_length}
use Rattle.seal.specs.Seal.{sealed, is_sealed}
use Rattle.seal.specs.Seal as seal
use Rattle.blocks.specs.Blocks as blocks
use Rattle.consist.specs.declared.Consist.{Consist}
use Rattle.consist.specs.Consist as consist
use Rattle.brake.specs.declared.Brake.{Brake}
use Rattle.brake.specs.State.{state_number, state_of}
use Rattle.brake.specs.Rear.{choice_number, choice_of, heard_number, heard_of}
use Rattle.learn.specs.declared.Learner.{Learner}
use Rattle.learn.specs.Stage.{stage_of, learner_told}
use Rattle.session.specs.declared.Session.{Session}
use Rattle.session.specs.Session.{Told, answer_told, is_open, none_open}

-- ---- the layout

-- the front, 66 bytes
abbrev pub size : ℕ
size = 66

-- of which 46 are the record's own fields; then stand the consist without its blocks, 16, and the check word of these 62
abbrev pub own : ℕ
own = 46

-- the mark: the letter F, and behind it the letter U where there are no blocks, else their count
abbrev pub mark : ℕ
mark = 0x4655

abbrev pub letter : ℕ
letter = 0x4600

abbrev pub mark_for : ℕ → ℕ
mark_for zero = mark
mark_for (suc n) = letter + suc n

-- a mark that tells of 1 to 64 blocks, how many a mark tells of, and what is no mark
abbrev pub has_blocks : ℕ → Bool
has_blocks m = ltb letter m && leb m (letter + blocks.most)

unfoldable pub count_in : ℕ → ℕ
count_in m = cond (has_blocks m) (m - letter) 0

unfoldable pub wrong_mark : ℕ → Bool
wrong_mark m = not (eqb m mark || has_blocks m)

-- behind the front, where there are blocks, these and their check word
abbrev pub behind_for : ℕ → ℕ
behind_for zero = 0
behind_for (suc n) = blocks.size * suc n + seal.size

-- the bytes of a record with so many blocks
abbrev pub size_for : ℕ → ℕ
size_for n = size + behind_for n

abbrev pub size_of : Session → ℕ
size_of x = size_for x.consist.blocks.count

-- of one with the most, 326; a session buffer has as many, or more
abbrev pub most : ℕ
most = size_for blocks.most

-- mark, the penalty's cause, the emergency's, whether a sample was yet accepted, the choice, state, when the rear was last present, hold, A, B, equalization, fall, last front, last rear, last time, and the learner's
abbrev pub fields_of : Session → List ℕ
fields_of x =
    let k = x.brake in
    mark_for x.consist.blocks.count ∷ x.cause ∷ x.emergency ∷ bit k.sampled ∷ choice_number k.choice ∷ state_number k.state ∷ heard_number k.heard ∷ k.hold ∷ k.a ∷ k.b ∷ k.equalization ∷ k.fall ∷ k.last_front ∷ k.last_rear ∷ k.last_time ∷ learner_told x.learner

abbrev pub widths : List ℕ
widths = 16 ∷ 4 ∷ 4 ∷ 1 ∷ 1 ∷ 5 ∷ 25 ∷ 16 ∷ 16 ∷ 16 ∷ 16 ∷ 16 ∷ 16 ∷ 16 ∷ 24 ∷ 4 ∷ 24 ∷ 12 ∷ 12 ∷ 16 ∷ 9 ∷ 18 ∷ 27 ∷ 22 ∷ 32 ∷ []

-- the air brakes of these fields
abbrev pub brake_of : List ℕ → Brake
brake_of fs = record {
  state = state_of (get_or fs 5 0);
  hold = get_or fs 7 0;
  a = get_or fs 8 0;
  b = get_or fs 9 0;
  equalization = get_or fs 10 0;
  fall = get_or fs 11 0;
  last_front = get_or fs 12 0;
  last_rear = get_or fs 13 0;
  last_time = get_or fs 14 0;
  sampled = eqb (get_or fs 3 0) 1;
  choice = choice_of (get_or fs 4 0);
  heard = heard_of (get_or fs 6 0);
}

-- what is kept of learning
abbrev pub learner_of : List ℕ → Learner
learner_of fs = record {
  stage = stage_of (get_or fs 15 0);
  since = get_or fs 16 0;
  init = get_or fs 17 0;
  last = get_or fs 18 0;
  pressure = get_or fs 19 0;
  sums = record { count = get_or fs 20 0; times = get_or fs 21 0; squares = get_or fs 22 0; pressures = get_or fs 23 0; products = get_or fs 24 0 };
}

-- the open session of these fields and a consist
abbrev pub of_fields : List ℕ → Consist → Session
of_fields fs c = record {
  opened = true;
  consist = c;
  brake = brake_of fs;
  learner = learner_of fs;
  cause = get_or fs 1 0;
  emergency = get_or fs 2 0;
}

-- ---- the bytes of a session

unfoldable pub front_of : Session → List ℕ
front_of x = sealed (bytes_from own widths (fields_of x) ++ consist.front_of x.consist)

-- so many blocks, whose bytes these are, with their check word
abbrev pub behind_of : ℕ → List ℕ → List ℕ
behind_of zero s = []
behind_of (suc n) s = sealed s

unfoldable pub bytes_of : Session → List ℕ
bytes_of x = let b = x.consist.blocks in front_of x ++ behind_of b.count (blocks.bytes_of b)

-- ---- the session that bytes stand for

-- the fields that a front begins with
abbrev pub fields_at : List ℕ → List ℕ
fields_at s = fields_from 0 widths s

-- a record's front and what is behind it, how many blocks that front tells of, and these; the consist in the front
abbrev pub front_at : List ℕ → List ℕ
front_at s = take size s

abbrev pub behind_at : List ℕ → List ℕ
behind_at s = drop size s

abbrev pub count_at : List ℕ → ℕ
count_at s = count_in (get_or (fields_at (front_at s)) 0 0)

abbrev pub blocks_at : List ℕ → List ℕ
blocks_at s = take (blocks.size * count_at s) (behind_at s)

abbrev pub consist_at : List ℕ → List ℕ
consist_at s = take consist.size (drop own s)

-- the record that a session buffer begins with; fewer bytes have none
unfoldable pub record_at : List ℕ → List ℕ
record_at s = cond (ltb (length s) most) [] (take (size_for (count_at s)) s)

unfoldable pub session_in : List ℕ → Session
session_in s = of_fields (fields_at (front_at s)) (consist.with_blocks (consist.consist_in (consist_at s)) (blocks.lay_of (blocks_at s)))

-- a front that is not sealed, with a wrong mark, a state above 5, or a stage of learning above 4
unfoldable pub no_front : List ℕ → Bool
no_front s = not (is_sealed s) || wrong_mark (get_or (fields_at s) 0 0) || ltb 5 (get_or (fields_at s) 5 0) || ltb 4 (get_or (fields_at s) 15 0)

-- so many blocks that are not sealed
abbrev pub no_behind : ℕ → List ℕ → Bool
no_behind zero s = false
no_behind (suc n) s = not (is_sealed s)

-- not as many bytes as there are with its blocks; no front; or blocks that are none
unfoldable pub no_record : List ℕ → Bool
no_record s = wrong_length (size_for (count_at s)) s || no_front (front_at s) || no_behind (count_at s) (behind_at s)

-- blocks that break the rules of 13
unfoldable pub is_broken : List ℕ → Bool
is_broken s = let c = consist.consist_in (consist_at s) in blocks.is_broken (blocks_at s) c.length c.weight

-- 1: bytes that no open session has; one whose consist is refused is not open
unfoldable pub no_session : List ℕ → Bool
no_session s = no_record s || is_broken s || not (is_open (session_in s))

-- ---- the reader

-- the refusal, with the value before any opening, or the session
abbrev pub answer : Verdict → Session → Verdict × Session
answer v x = (v, kept v x none_open)

abbrev pub refused_with : Refusal → Verdict × Session
refused_with r = answer (Refused r) none_open

-- the paper's number and values, as of a call's answer
abbrev pub read_told : Verdict × Session → ℕ × Told
read_told a = answer_told (record { session = a.1; verdict = a.0 })

abbrev pub read_rules : List ℕ → List Rule
read_rules s = (no_session s, NoSession) ∷ []

unfoldable pub read_session : List ℕ → Verdict × Session
read_session s = answer (lowest (read_rules s)) (session_in s)

-- for an inner contract: the session of a front's fields and a consist, where it is open
unfoldable pub read_front : List ℕ → Consist → Verdict × Session
read_front s c = let x = of_fields (fields_at s) c in answer (lowest ((not (is_open x), NoSession) ∷ [])) x

-- ---- the writer

-- "Writers refuse what the reader would, with its number, touching nothing, and never touch bytes past the record."
abbrev pub write_rules : Session → List ℕ → List Rule
write_rules x out = (not (is_open x), NoSession) ∷ (no_room (size_of x) out, NoRoom) ∷ []

unfoldable pub write_session : Session → List ℕ → Verdict × List ℕ
write_session x out = written (lowest (write_rules x out)) (bytes_of x) out
