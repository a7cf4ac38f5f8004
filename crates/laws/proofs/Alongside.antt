-- Two trains alongside each other, under any two brake forces of which the first is weaker: the walk's comparison at their approaches, and the first
-- target that is called for. Assumes nothing.
use mathlib.Core.Path.{◌≡◌, refl, sym, subst₂}
use mathlib.Core.Bool.{Bool, true, false, cond}
use Prim.Native.Nat.{ℕ, zero, suc, ◌≤◌, ◌<◌}
use native.Mathlib.Nat.{le_refl}
use native.Mathlib.Omega.{arith}
use Rattle.record.specs.Location.{farthest, no_stop}
use Rattle.consist.specs.Sound.{Sound}
use Rattle.step.specs.Step.{Ground}
use Rattle.walk.specs.Walk.{Arrival, at, never, arrival_for, location_of}
use Rattle.walk.proofs.Reach.{NoFurther, arrival_no_further}
use Rattle.judge.specs.Judge.{first_from}
use Rattle.judge.specs.Approach.{Approach, ground}
use Rattle.laws.specs.Compare.{NotShort, Weaker, Alike, Heavy, NeverShort}
use Rattle.laws.proofs.Compare.{never_short}

-- the order of arrivals is that of their numbers
pub location_order : (x y : Arrival) → NotShort x y → NoFurther no_stop y → location_of y ≤ location_of x
location_order never (at y) h w = w
location_order never never h w = le_refl _
location_order (at x) (at y) h w = h
location_order (at x) never h w = absurd h

-- there is a first wherever a test that holds less often has one
pub first_some : (f g : ℕ → Bool) → ((k : ℕ) → f k ≡ true → g k ≡ true) → (k n : ℕ) → 0 < first_from f k n → 0 < first_from g k n
unfolding first_from
first_some f g h k zero l = l
first_some f g h k (suc n) l = go (f k) (g k) (h k) (first_some f g h (suc k) n) l
  where
    go : (a b : Bool) → (a ≡ true → b ≡ true) → (0 < first_from f (suc k) n → 0 < first_from g (suc k) n)
        → 0 < cond a (suc k) (first_from f (suc k) n) → 0 < cond b (suc k) (first_from g (suc k) n)
    go a true e ih l = omega arith
    go false false e ih l = ih l
    go true false e ih l = absurd (let z = e refl in let y : ◌≡◌ {A = ℕ} 0 1 = cc in omega arith)

-- what a walk reads of an approach beside the force: the first train is no slower, all else is the same
pub record Alongside (one other : Approach) : Type 0 where
  pub speed : other.speed ≤ one.speed
  pub cars : one.consist.cars ≡ other.consist.cars
  pub axles : one.consist.axles ≡ other.consist.axles
  pub weight : one.consist.weight ≡ other.consist.weight
  pub length : one.consist.length ≡ other.consist.length
  pub blocks : one.consist.blocks ≡ other.consist.blocks
  pub track : one.track ≡ other.track
  pub head : one.head ≡ other.head

-- where an approach arrives at the speed u, under a force
abbrev pub arrival_under : Approach → (ℕ → ℕ) → ℕ → Arrival
arrival_under x force u = arrival_for x.consist force (ground x) x.head x.speed u

module _ (one other : Approach) (f g : ℕ → ℕ) (s : Sound one.consist) (h : one.head ≤ farthest) (w : Alongside one other) (weaker : Weaker f g) where
  alike : Alike one.consist other.consist
  alike = record { cars = w.cars; axles = w.axles; weight = w.weight }

  heavy : Heavy one.consist
  heavy = record { some = omega arith; enough = s.heavy }

  same_ground : ground other ≡ ground one
  same_ground = rw (w.track, w.length, w.weight, w.blocks)

  pub not_short : (u : ℕ) → NotShort (arrival_under one f u) (arrival_under other g u)
  unfolding NeverShort
  not_short u =
      subst₂ (λ (x : Ground) (n : ℕ). NotShort (arrival_for one.consist f x n one.speed u) (arrival_under other g u))
      same_ground (sym w.head)
      (never_short one.consist other.consist f g (ground other) other.head one.speed other.speed u heavy alike weaker w.speed)

  pub farther : (u : ℕ) → location_of (arrival_under other g u) ≤ location_of (arrival_under one f u)
  farther u =
      location_order (arrival_under one f u) (arrival_under other g u) (not_short u)
      (arrival_no_further other.consist g (ground other) other.head other.speed u no_stop (omega (arith, w.head)))
