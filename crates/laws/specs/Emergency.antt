-- The comparison behind demand 3 for emergency air, by document 02's R-5. A statement; proofs/Emergency.antt proves it.
use Rattle.std.specs.Prelude.{◌≡◌, List, ℕ, ◌≤◌, ◌<◌}
use Rattle.record.specs.Location.{farthest}
use Rattle.consist.specs.Sound.{Sound}
use Rattle.laws.specs.Compare.{NotShort}
use Rattle.judge.specs.Emergency.{Emergency, emergency_arrival, emergency_stop, emergency_call_of}

-- as of two approaches: speed no lower, rated brake force no higher, all else that this curve reads the same; "for this curve state, nominal and held
-- equalization are equal too", so that A as it is applied and the equalization that it falls to are
pub record EmergencyWorse (one other : Emergency) : Type 0 where
  pub speed : other.approach.speed ≤ one.approach.speed
  pub rated : one.approach.consist.rated ≤ other.approach.consist.rated
  pub cars : one.approach.consist.cars ≡ other.approach.consist.cars
  pub axles : one.approach.consist.axles ≡ other.approach.consist.axles
  pub weight : one.approach.consist.weight ≡ other.approach.consist.weight
  pub length : one.approach.consist.length ≡ other.approach.consist.length
  pub blocks : one.approach.consist.blocks ≡ other.approach.consist.blocks
  pub a : one.approach.a ≡ other.approach.a
  pub b : one.approach.b ≡ other.approach.b
  pub equalization : one.equalization ≡ other.equalization
  pub track : one.approach.track ≡ other.approach.track
  pub head : one.approach.head ≡ other.approach.head

pub record EmergencyAsCautious (one other : Emergency) : Type 0 where
  -- its stop is never short of the other's
  pub not_short : NotShort (emergency_arrival one) (emergency_arrival other)
  -- as the number in a decision too
  pub stop : emergency_stop other ≤ emergency_stop one
  -- "a call of emergency is there the curve's own": if the other calls for emergency, so does it, whatever the targets
  pub called : (targets : List ℕ) → 0 < emergency_call_of other targets → 0 < emergency_call_of one targets

unfoldable pub EmergencyCompared : Type 0
EmergencyCompared =
    (one other : Emergency) → Sound one.approach.consist → one.approach.head ≤ farthest →
    EmergencyWorse one other → EmergencyAsCautious one other
