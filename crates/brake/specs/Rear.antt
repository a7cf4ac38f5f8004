-- What is held of a rear device that may go quiet: document 02's R-7. Definitions only.
use Rattle.std.specs.Prelude.{ℕ, zero, suc, Option, Some, None}
use Rattle.brake.specs.declared.Choice.{Choice}
use Rattle.brake.specs.declared.Choice.TheVariants.{FiveSeconds, Everlasting}

-- "The new default" is 0; "the everlasting value", "the old choice in the opening", 1, and any other number asks for it
abbrev pub choice_number : Choice → ℕ
choice_number FiveSeconds = 0
choice_number Everlasting = 1

abbrev pub choice_of : ℕ → Choice
choice_of zero = FiveSeconds
choice_of (suc n) = Everlasting

-- the time of "the last present value"
abbrev pub Heard : Type 0
Heard = Option ℕ

-- "there was none yet"
pattern abbrev pub Never : Heard
Never = None

pattern abbrev pub At : ℕ → Heard
At time = Some time

-- that time as a number: 0 where "there was none yet", else one more than the time
abbrev pub heard_number : Heard → ℕ
heard_number Never = 0
heard_number (At time) = suc time

abbrev pub heard_of : ℕ → Heard
heard_of zero = Never
heard_of (suc time) = At time
