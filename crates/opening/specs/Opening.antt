-- "consist, two-byte record count (high byte first) and profile, one-byte count and targets", and behind the consist (02, R-1) "a one-byte block count
-- follows the consist": what a count announces, and when a list is taken. Definitions only.
use Rattle.std.specs.Prelude.{Option, Some, None, ◌≡◌, ℕ, ◌*◌, List, [], ◌∷◌, Bool, true, false, ◌&&◌, cond, length, leb, eqb}
use Rattle.bits.specs.Bytes.{num}
use Rattle.refusal.specs.Verdict.{Verdict, Accepted, Refused}
use Rattle.blocks.specs.Blocks as blocks
use Rattle.profile.specs.Profile as profile
use Rattle.targets.specs.Targets as targets

-- a part of the feed: how many bytes it has, or none where it breaks a rule
abbrev pub Part : Type 0
Part = Option ℕ

pattern abbrev pub Bytes : ℕ → Part
Bytes n = Some n

pattern abbrev pub Broken : Part
Broken = None

-- 02, R-7: the word that asks for "the old choice in the opening", `everlasting`
abbrev pub everlasting : List ℕ
everlasting = 101 ∷ 118 ∷ 101 ∷ 114 ∷ 108 ∷ 97 ∷ 115 ∷ 116 ∷ 105 ∷ 110 ∷ 103 ∷ []

-- an answer that is yes where something holds, and nowhere else
abbrev pub Tells : Bool → Type 0 → Type 0
Tells r P = (r ≡ true → P) × (P → r ≡ true)

-- how many bytes a part has
abbrev pub bytes_in : Part → ℕ
bytes_in (Bytes n) = n
bytes_in Broken = 0

-- the bytes of the longest list
abbrev pub blocks_room : ℕ
blocks_room = blocks.size * blocks.most

abbrev pub profile_room : ℕ
profile_room = profile.size * profile.most

abbrev pub targets_room : ℕ
targets_room = targets.size * targets.most

-- a count of so many bytes announces records, each of one size; missing, cut short or out of range it is broken
abbrev pub announced : ℕ → (ℕ → Bool) → ℕ → List ℕ → Part
announced width counted size s = cond (eqb (length s) width && counted (num s)) (Bytes (size * num s)) Broken

-- "a one-byte block count", "two-byte record count", "one-byte count"
abbrev pub blocks_count_size : ℕ
blocks_count_size = 1

abbrev pub profile_count_size : ℕ
profile_count_size = 2

abbrev pub targets_count_size : ℕ
targets_count_size = 1

-- "a one-byte block count follows the consist, 0 for none", and it may announce up to 64
unfoldable pub blocks_ahead : List ℕ → Part
blocks_ahead s = announced blocks_count_size (λ n. leb n blocks.most) blocks.size s

-- "two-byte record count (high byte first) and profile"
unfoldable pub profile_ahead : List ℕ → Part
profile_ahead s = announced profile_count_size profile.counted profile.size s

-- "one-byte count and targets"
unfoldable pub targets_ahead : List ℕ → Part
targets_ahead s = announced targets_count_size targets.counted targets.size s

-- a judge's verdict, as a test
abbrev pub is_accepted : Verdict → Bool
is_accepted Accepted = true
is_accepted (Refused r) = false

-- "a broken or short profile", "targets": what came is not taken
unfoldable pub taken : Part → ℕ → Bool → Part
taken (Bytes size) came right = cond (eqb came size && right) (Bytes size) Broken
taken Broken came right = Broken

-- blocks of which some are missing are not taken; the others are judged with the consist that they follow
abbrev pub blocks_taken : Part → List ℕ → Part
blocks_taken ahead b = taken ahead (length b) true

abbrev pub profile_taken : Part → List ℕ → Part
profile_taken ahead p = taken ahead (length p) (is_accepted (profile.judge_profile p).0)

abbrev pub targets_taken : Part → List ℕ → Part
targets_taken ahead t = taken ahead (length t) (is_accepted (targets.judge_targets t).0)
