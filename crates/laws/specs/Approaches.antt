-- The comparison behind demand 3, of two approaches. A statement; proofs/Approaches.antt proves it.
use Rattle.std.specs.Prelude.{◌≡◌, List, ℕ, ◌≤◌, ◌<◌}
use Rattle.record.specs.Location.{farthest}
use Rattle.consist.specs.Sound.{Sound}
use Rattle.laws.specs.Compare.{NotShort}
use Rattle.judge.specs.Approach.{Approach, arrival_of, prediction_of, call_of}

-- "the same head location, profile, targets, pressures and consist, except that one has speed no lower, rated brake force no higher, application
-- time no shorter and target offset no smaller"; of the consist what a prediction reads
pub record Worse (one other : Approach) : Type 0 where
  pub speed : other.speed ≤ one.speed
  pub rated : one.consist.rated ≤ other.consist.rated
  pub application : other.consist.application ≤ one.consist.application
  pub offset : other.consist.offset ≤ one.consist.offset
  pub cars : one.consist.cars ≡ other.consist.cars
  pub axles : one.consist.axles ≡ other.consist.axles
  pub weight : one.consist.weight ≡ other.consist.weight
  pub length : one.consist.length ≡ other.consist.length
  pub blocks : one.consist.blocks ≡ other.consist.blocks
  pub set : one.consist.set ≡ other.consist.set
  pub a : one.a ≡ other.a
  pub b : one.b ≡ other.b
  pub track : one.track ≡ other.track
  pub head : one.head ≡ other.head

pub record AsCautious (one other : Approach) : Type 0 where
  -- "Its location is never short of the other's, for a stop or for any target speed"
  pub not_short : (u : ℕ) → NotShort (arrival_of one u) (arrival_of other u)
  -- nor is its stop, as the number in a decision
  pub stop : (speeds : List ℕ) → (prediction_of other speeds).stop ≤ (prediction_of one speeds).stop
  -- "if the other calls for the penalty, so does it", whatever the targets
  pub called : (targets : List ℕ) → 0 < call_of other targets → 0 < call_of one targets

unfoldable pub Compared : Type 0
Compared =
    (one other : Approach) → Sound one.consist → Sound other.consist → one.head ≤ farthest → Worse one other → AsCautious one other
