-- What is read of a feed's opening. Definitions only.
use Rattle.std.specs.Prelude.{◌≡◌, ◌+◌, ℕ, List, [], take, drop, Option, Some, Result, Ok, Err}
use Rattle.refusal.specs.declared.Refusal.{Refusal}
use Rattle.refusal.specs.Verdict.{Accepted, Refused}
use Rattle.brake.specs.declared.Choice.{Choice}
use Rattle.session.specs.declared.Session.{Session}
use Rattle.opening.specs.declared.Section.{Section}
use Rattle.opening.specs.Opening.{Part, Bytes, Broken, bytes_in}
use Rattle.opening.specs.Section.{count_size_of, ahead_of, taken_of, refusal_of}
use Rattle.line.specs.Line.{refusal_text}
use Rattle.feed.specs.Output.{after_blocks, after_targets, answer_to, verdict_on, lines_from, output_of, behind_consist, unread}

-- ---- a section, of the bytes that are left

-- what its count announces
abbrev pub announced_in : Section → List ℕ → Part
announced_in section xs = ahead_of section (take (count_size_of section) xs)

abbrev pub bytes_of : Section → List ℕ → List ℕ
bytes_of section xs = take (bytes_in (announced_in section xs)) (drop (count_size_of section) xs)

abbrev pub taken_in : Section → List ℕ → Part
taken_in section xs = taken_of section (announced_in section xs) (bytes_of section xs)

-- what is left behind it
abbrev pub after : Section → List ℕ → List ℕ
after section xs = drop (count_size_of section + bytes_in (announced_in section xs)) xs

-- it is taken, and stands at the front of s, or it is broken
abbrev pub SectionRead : Section → List ℕ → Result ℕ Refusal → List ℕ → Option (List ℕ) → Type 0
SectionRead section xs (Ok n) s left = (taken_in section xs ≡ Bytes n) × (take n s ≡ bytes_of section xs) × (left ≡ Some (after section xs))
SectionRead section xs (Err r) s left = (taken_in section xs ≡ Broken) × (r ≡ refusal_of section) × (left ≡ Some (after section xs))

-- ---- the consist with its blocks, and all of the opening

-- they open a session, or are refused
abbrev pub Opens : Choice → List ℕ → Result Session Refusal → Option (List ℕ) → Type 0
Opens choice xs (Ok x) left = (verdict_on choice xs ≡ Accepted) × (x ≡ (answer_to choice xs).session) × (left ≡ Some (after_blocks xs))
Opens choice xs (Err r) left = (verdict_on choice xs ≡ Refused r) × (left ≡ Some (behind_consist choice xs))

-- the samples' lines are all that is left to print, or a refusal's
abbrev pub Opened : Choice → List ℕ → Result (Session × ℕ × ℕ) Refusal → List ℕ → List ℕ → Option (List ℕ) → Type 0
Opened choice xs (Ok r) p t left =
    (output_of choice xs ≡ lines_from (take r.1 p) (take r.2 t) r.0 (after_targets xs)) × (unread choice xs ≡ []) × (left ≡ Some (after_targets xs))
Opened choice xs (Err r) p t left = (output_of choice xs ≡ refusal_text r) × (left ≡ Some (unread choice xs))
