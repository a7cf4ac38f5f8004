-- The comparison behind demand 3, over any two brake forces. Statements; proofs/Compare.antt proves them.
use Rattle.std.specs.Prelude.{◌≡◌, ℕ, ◌*◌, ◌≤◌, ◌<◌}
use Rattle.consist.specs.declared.Consist.{Consist}
use Rattle.step.specs.declared.Run.{Run}
use Rattle.step.specs.Step.{Ground, step_of}
use Rattle.walk.specs.Walk.{Arrival, at, never, arrival_for}

-- the first arrival is not short of the second: none is beyond every location
abbrev pub NotShort : Arrival → Arrival → Type 0
NotShort never y = Unit {0}
NotShort (at x) (at y) = y ≤ x
NotShort (at x) never = ⊥

-- neither force falls as t grows, and the first is nowhere above the second at the same t
pub record Weaker (f g : ℕ → ℕ) : Type 0 where
  pub first_grows : (s t : ℕ) → s ≤ t → f s ≤ f t
  pub second_grows : (s t : ℕ) → s ≤ t → g s ≤ g t
  pub below : (t : ℕ) → f t ≤ g t

-- consists that agree in what a step reads of them
pub record Alike (c d : Consist) : Type 0 where
  pub cars : c.cars ≡ d.cars
  pub axles : c.axles ≡ d.axles
  pub weight : c.weight ≡ d.weight

-- "weight under 10 tons a car" is refused
pub record Heavy (c : Consist) : Type 0 where
  pub some : 0 < c.weight
  pub enough : 10 * c.cars ≤ c.weight

-- the first run is where the second is, no slower, its clock no later
pub record Ahead (r s : Run) : Type 0 where
  pub head : r.head ≡ s.head
  pub q : s.q ≤ r.q
  pub clock : r.clock ≤ s.clock

-- q no lower and t no greater at every step
unfoldable pub StaysAhead : Type 0
StaysAhead =
    (c d : Consist) (f g : ℕ → ℕ) (ground : Ground) (r s : Run) → Heavy c → Alike c d → Weaker f g → Ahead r s → 0 < s.q →
    Ahead (step_of c f ground r) (step_of d g ground s)

-- its location is never short of the other's, for a stop or for any target speed
unfoldable pub NeverShort : Type 0
NeverShort =
    (c d : Consist) (f g : ℕ → ℕ) (ground : Ground) (head v w u : ℕ) → Heavy c → Alike c d → Weaker f g → w ≤ v →
    NotShort (arrival_for c f ground head v u) (arrival_for d g ground head w u)
