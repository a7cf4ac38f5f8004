-- "Numbers a refusal carries", of a sample call: each line of the table once. What differs from session to session, the time, is
-- given as an answer. Definitions only.
use Rattle.std.specs.Prelude.{Bool, ◌&&◌, ◌||◌, not, List, [], ◌∷◌, ◌++◌, ℕ, ◌+◌, ◌-◌, leb, ltb}
use Rattle.refusal.specs.Lowest.{Rule}
use Rattle.refusal.specs.Written.{no_room}
use Rattle.refusal.specs.declared.Refusal.TheVariants.{BrokenProfile, BrokenTargets, BadReading, WrongTime, NotCovered, NoRoom}
use Rattle.consist.specs.declared.Consist.{Consist}
use Rattle.profile.specs.Profile as profile
use Rattle.targets.specs.Targets as targets
use Rattle.sample.specs.declared.RawSample.{RawSample}
use Rattle.sample.specs.declared.Sample.{Sample}
use Rattle.sample.specs.Sample.{raw_in, sample_of, bad_reading, layout_rules}
use Rattle.decision.specs.Decision as decision
use Rattle.brake.specs.declared.Brake.{Brake}
use Rattle.walk.specs.Walk.{reach}

-- 9: "time not 1 to 5 seconds after the last accepted sample"; the session's first sample "may have any time"
unfoldable pub wrong_time : Brake → Sample → Bool
wrong_time k m = k.sampled && not (leb (k.last_time + 1) m.time && leb m.time (k.last_time + 5))

-- the start of the last record, which "only ends the profile"
abbrev pub last_start : List ℕ → ℕ
last_start p = (profile.segment_at p (profile.count p - 1)).start

-- "Head may move back.": no rule reads the last head.
-- 10: "head less than train length, or profile not covering head minus length to head plus 32,768"
unfoldable pub not_covered : Consist → List ℕ → Sample → Bool
not_covered c p m =
    ltb m.head c.length
    || ltb (m.head - c.length) (profile.segment_at p 0).start
    || ltb (last_start p) (m.head + reach)

-- 6 to 10: the lines between the layout and the room, of a sample that is laid out; `untimely` says whether its time is refused
abbrev pub lines_before : Consist → (untimely : Bool) → RawSample → (p t : List ℕ) → List Rule
lines_before c untimely raw p t =
    (profile.broken_in p, BrokenProfile)
    ∷ (targets.broken_in t, BrokenTargets)
    ∷ (bad_reading raw, BadReading)
    ∷ (untimely, WrongTime)
    ∷ (not_covered c p (sample_of raw), NotCovered)
    ∷ []

-- 2 on: all of them while a session is open; 12 "means under 16 bytes for a sample call" (02, R-5)
abbrev pub lines_open : Consist → (untimely : Bool) → (s p t out : List ℕ) → List Rule
lines_open c untimely s p t out =
    layout_rules s
    ++ lines_before c untimely (raw_in s) p t
    ++ (no_room decision.both_size out, NoRoom)
    ∷ []
