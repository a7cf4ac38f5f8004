-- The judgement of targets. Definitions only.
use Rattle.std.specs.Prelude.{Bool, ◌&&◌, cond, List, ℕ, zero, suc, ◌+◌, ◌-◌, ◌*◌, min, leb, ltb, eqb, get_or}
use Rattle.whole.specs.Ceiling.{ceil_div}
use Rattle.targets.specs.Targets.{most}
use Rattle.walk.specs.Walk.{reach}

-- "A target is judged if it lies from head to head plus 32,768, both included."
unfoldable pub is_judged : (head target : ℕ) → Bool
is_judged head target = leb head target && leb target (head + reach)

-- "Its offset is offset × (v² - u²) / v² rounded up, with v the train's and u the target's speed; 0 where v is not above u", where v² - u² is 0
unfoldable pub offset_for : (offset v u : ℕ) → ℕ
offset_for offset v u = ceil_div (offset * (v * v - u * u)) (v * v)

-- "The penalty is called when location plus offset is greater than the target": arrival is the location for u, or 16,777,215, beyond every target
unfoldable pub is_called : (offset head v target u arrival : ℕ) → Bool
is_called offset head v target u arrival = is_judged head target && ltb target (arrival + offset_for offset v u)

-- the same of target k in the list
abbrev pub calls : (offset head v : ℕ) (targets speeds arrivals : List ℕ) (k : ℕ) → Bool
calls offset head v targets speeds arrivals k = is_called offset head v (get_or targets k 0) (get_or speeds k 0) (get_or arrivals k 0)

-- the first of n from k on for which f holds, counted from 1; 0 for none
unfoldable pub first_from : (f : ℕ → Bool) (k n : ℕ) → ℕ
first_from f k zero = 0
first_from f k (suc n) = let rest = first_from f (suc k) n in cond (f k) (suc k) rest

-- "The cause is the first such target": "0, or 1 to 8 for the target's place in the list", judged or not
unfoldable pub cause_of : (offset head v count : ℕ) (targets speeds arrivals : List ℕ) → ℕ
cause_of offset head v count targets speeds arrivals = first_from (calls offset head v targets speeds arrivals) 0 (min count most)

-- "The cause .. and, like the penalty, stays": the one that stood, or else the one that is called for
unfoldable pub standing : (stood called : ℕ) → ℕ
standing stood called = cond (eqb stood 0) called stood

-- ---- the emergency, by document 02's R-5

-- "Emergency is called if the stop is at or past a judged target of speed 0, with no offset": no stop is past every target
unfoldable pub is_emergency_called : (head target u stop : ℕ) → Bool
is_emergency_called head target u stop = is_judged head target && eqb u 0 && leb target stop

-- the same of target k in the list
abbrev pub emergency_calls : (head : ℕ) (targets speeds : List ℕ) (stop k : ℕ) → Bool
emergency_calls head targets speeds stop k = is_emergency_called head (get_or targets k 0) (get_or speeds k 0) stop

-- the first such target, as of the penalty
unfoldable pub emergency_cause_of : (head count : ℕ) (targets speeds : List ℕ) (stop : ℕ) → ℕ
emergency_cause_of head count targets speeds stop = first_from (emergency_calls head targets speeds stop) 0 (min count most)
