-- The three lists that a feed opens with, each behind its count, told alike. Definitions only.
use Rattle.std.specs.Prelude.{ℕ, List, Bool, true, length}
use Rattle.refusal.specs.declared.Refusal.{Refusal}
use Rattle.refusal.specs.declared.Refusal.TheVariants.{BrokenProfile, BrokenTargets, BrokenBlocks}
use Rattle.profile.specs.Profile.{judge_profile}
use Rattle.targets.specs.Targets.{judge_targets}
use Rattle.opening.specs.declared.Section.{Section}
use Rattle.opening.specs.declared.Section.TheVariants.{Blocks, Profile, Targets}
use Rattle.opening.specs.Opening.{Part, is_accepted, taken, blocks_count_size, profile_count_size, targets_count_size, blocks_ahead, profile_ahead, targets_ahead, blocks_room, profile_room, targets_room}

abbrev pub count_size_of : Section → ℕ
count_size_of Blocks = blocks_count_size
count_size_of Profile = profile_count_size
count_size_of Targets = targets_count_size

abbrev pub ahead_of : Section → List ℕ → Part
ahead_of Blocks s = blocks_ahead s
ahead_of Profile s = profile_ahead s
ahead_of Targets s = targets_ahead s

-- by the judge of each; of blocks nothing is asked before they stand behind their consist
abbrev pub is_right : Section → List ℕ → Bool
is_right Blocks s = true
is_right Profile s = is_accepted (judge_profile s).0
is_right Targets s = is_accepted (judge_targets s).0

-- so that it is `blocks_taken`, `profile_taken` and `targets_taken`
abbrev pub taken_of : Section → Part → List ℕ → Part
taken_of section ahead s = taken ahead (length s) (is_right section s)

-- 13, 6 and 7
abbrev pub refusal_of : Section → Refusal
refusal_of Blocks = BrokenBlocks
refusal_of Profile = BrokenProfile
refusal_of Targets = BrokenTargets

-- the bytes of the longest list
abbrev pub room_of : Section → ℕ
room_of Blocks = blocks_room
room_of Profile = profile_room
room_of Targets = targets_room
