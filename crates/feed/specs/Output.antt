-- The whole output of a feed: where its parts lie, and what is printed of them. Definitions only.
use Rattle.std.specs.Prelude.{ℕ, ◌+◌, ◌-◌, ◌/◌, List, [], ◌∷◌, ◌++◌, length, take, drop, replicate}
use Rattle.bits.specs.Tables.{up_to, part}
use Rattle.refusal.specs.declared.Refusal.TheVariants.{BrokenProfile, BrokenTargets, BrokenBlocks}
use Rattle.refusal.specs.Verdict.{Verdict, Accepted, Refused}
use Rattle.consist.specs.Consist as consist
use Rattle.sample.specs.Sample as sample
use Rattle.decision.specs.Decision as decision
use Rattle.brake.specs.declared.Choice.{Choice}
use Rattle.session.specs.declared.Session.{Session}
use Rattle.session.specs.Session.{Answer, none_open}
use Rattle.session.specs.Open.{open_of}
use Rattle.sampling.specs.Sample.{sample_call}
use Rattle.opening.specs.Opening.{Part, Bytes, Broken, bytes_in, blocks_count_size, profile_count_size, targets_count_size, blocks_ahead, profile_ahead, targets_ahead, blocks_taken, profile_taken, targets_taken}
use Rattle.line.specs.Line.{refusal_text, sample_text}

-- ---- "The session program reads standard input": each part takes its bytes from what is left, or as many as there are

-- "consist"
abbrev pub consist_bytes : List ℕ → List ℕ
consist_bytes feed = take consist.size feed

abbrev pub after_consist : List ℕ → List ℕ
after_consist feed = drop consist.size feed

-- "a one-byte block count follows the consist" (02, R-1)
abbrev pub blocks_announced : List ℕ → Part
blocks_announced feed = blocks_ahead (take blocks_count_size (after_consist feed))

-- and blocks
abbrev pub blocks_bytes : List ℕ → List ℕ
blocks_bytes feed = take (bytes_in (blocks_announced feed)) (drop blocks_count_size (after_consist feed))

abbrev pub after_blocks : List ℕ → List ℕ
after_blocks feed = drop (blocks_count_size + bytes_in (blocks_announced feed)) (after_consist feed)

-- "two-byte record count (high byte first)"
abbrev pub profile_announced : List ℕ → Part
profile_announced feed = profile_ahead (take profile_count_size (after_blocks feed))

-- "and profile"
abbrev pub profile_bytes : List ℕ → List ℕ
profile_bytes feed = take (bytes_in (profile_announced feed)) (drop profile_count_size (after_blocks feed))

abbrev pub after_profile : List ℕ → List ℕ
after_profile feed = drop (profile_count_size + bytes_in (profile_announced feed)) (after_blocks feed)

-- "one-byte count"
abbrev pub targets_announced : List ℕ → Part
targets_announced feed = targets_ahead (take targets_count_size (after_profile feed))

-- "and targets"
abbrev pub targets_bytes : List ℕ → List ℕ
targets_bytes feed = take (bytes_in (targets_announced feed)) (drop targets_count_size (after_profile feed))

abbrev pub after_targets : List ℕ → List ℕ
after_targets feed = drop (targets_count_size + bytes_in (targets_announced feed)) (after_profile feed)

-- "then samples": 20 bytes each, as many as were begun; the last may be short
abbrev pub samples_of : List ℕ → List (List ℕ)
samples_of s = up_to ((length s + (sample.size - 1)) / sample.size) (part sample.size s)

-- ---- what is printed

-- Each sample prints its lines, also after one that is refused; each call is lent the profile, the targets and 16 bytes for its two decisions.
-- "A short last sample prints `x 2`" is the table's 2, and specs/Short.antt states it.
unfoldable pub lines_of : Session → List ℕ → List ℕ → List (List ℕ) → List ℕ
lines_of x p t [] = []
lines_of x p t (s ∷ ss) =
    let answer = sample_call x s p t (replicate decision.both_size 0) in
    let rest = lines_of answer.0.session p t ss in
    sample_text answer.0.verdict answer.1 ++ rest

-- the lines of the samples that are left, from a session on
abbrev pub lines_from : List ℕ → List ℕ → Session → List ℕ → List ℕ
lines_from p t x s = lines_of x p t (samples_of s)

-- the verdict on the consist: 2, 4 and 5 on its 16 bytes alone; 13 where the blocks are not taken; then that on all of it
abbrev pub consist_verdict : (alone : Verdict) → Part → (whole : Verdict) → Verdict
consist_verdict (Refused r) blocks whole = Refused r
consist_verdict Accepted Broken whole = Refused BrokenBlocks
consist_verdict Accepted (Bytes n) whole = whole

-- the answer to the consist with its blocks
abbrev pub answer_to : Choice → List ℕ → Answer
answer_to choice feed = open_of none_open (consist_bytes feed ++ blocks_bytes feed) choice

-- the verdict on the 16 bytes alone, and that on the consist with its blocks
abbrev pub verdict_alone : Choice → List ℕ → Verdict
verdict_alone choice feed = (open_of none_open (consist_bytes feed) choice).verdict

abbrev pub verdict_on : Choice → List ℕ → Verdict
verdict_on choice feed = consist_verdict (verdict_alone choice feed) (blocks_taken (blocks_announced feed) (blocks_bytes feed)) (answer_to choice feed).verdict

-- by the verdict on the consist, the profile and the targets that were taken, and the lines of the samples
abbrev pub printed : Verdict → Part → Part → List ℕ → List ℕ
-- "A refused consist prints `x` and its number and ends"
printed (Refused r) profile targets lines = refusal_text r
-- "a broken or short profile prints `x 6`"
printed Accepted Broken targets lines = refusal_text BrokenProfile
-- "targets `x 7`, and end"
printed Accepted (Bytes n) Broken lines = refusal_text BrokenTargets
-- otherwise the samples' lines, and where there are no samples nothing
printed Accepted (Bytes n) (Bytes m) lines = lines

-- The whole output of a feed, under a choice (02, R-7), which its bytes do not carry. Where `try_run` answers that no read and no write failed, it has printed this.
unfoldable pub output_of : Choice → List ℕ → List ℕ
output_of choice feed =
    let profile = profile_taken (profile_announced feed) (profile_bytes feed) in
    let targets = targets_taken (targets_announced feed) (targets_bytes feed) in
    let lines = lines_from (profile_bytes feed) (targets_bytes feed) (answer_to choice feed).session (after_targets feed) in
    printed (verdict_on choice feed) profile targets lines

-- ---- what is left unread: nothing, but behind an opening that is refused

abbrev pub unless_accepted : Verdict → (left more : List ℕ) → List ℕ
unless_accepted (Refused r) left more = left
unless_accepted Accepted left more = more

abbrev pub unless_taken : Part → (left more : List ℕ) → List ℕ
unless_taken Broken left more = left
unless_taken (Bytes n) left more = more

-- behind a consist that is refused
abbrev pub behind_consist : Choice → List ℕ → List ℕ
behind_consist choice feed = unless_accepted (verdict_alone choice feed) (after_consist feed) (after_blocks feed)

unfoldable pub unread : Choice → List ℕ → List ℕ
unread choice feed =
    let profile = profile_taken (profile_announced feed) (profile_bytes feed) in
    let targets = targets_taken (targets_announced feed) (targets_bytes feed) in
    unless_accepted (verdict_on choice feed) (behind_consist choice feed) (unless_taken profile (after_profile feed) (unless_taken targets (after_targets feed) []))
