-- The test of the invariant says exactly that it holds, and the test of an opening finds the brake of one. Assumes nothing.
use mathlib.Core.Path.{◌≡◌, refl}
use mathlib.Core.Bool.{Bool, true, false, ◌&&◌, false≢true}
use mathlib.Core.Logic.{◌↔◌}
use Prim.Native.Nat.{ℕ, ◌+◌, ◌*◌, ◌≤◌}
use lib.Dec.{leb, eqb}
use borrow.Author.Tests.{leb-true, le-leb, eqb-true, eq-eqb}
use Rattle.consist.specs.declared.Consist.{Consist}
use Rattle.brake.specs.declared.State.{State}
use Rattle.brake.specs.declared.State.TheVariants.{Charged, ApplyingService, HoldingService, ApplyingEmergency, HoldingEmergency, Charging}
use Rattle.brake.specs.declared.Choice.{Choice}
use Rattle.brake.specs.declared.Brake.{Brake}
use Rattle.brake.specs.State.{state_number}
use Rattle.brake.specs.Rear.{heard_number}
use Rattle.brake.specs.Brake.{at_opening, is_at_opening}
use Rattle.brake.specs.Sound.{most_pressure, most_time, most_b, most_fall, Balance, is_balanced, Sound, is_sound}
use Rattle.brake.proofs.Told.{brake_one}

at_most : (x y : ℕ) → (leb x y ≡ true) ↔ (x ≤ y)
at_most x y = (leb-true x y, le-leb x y)

same : (x y : ℕ) → (eqb x y ≡ true) ↔ (x ≡ y)
same x y = (eqb-true x y, eq-eqb x y)

-- two tests, both of them
infixl 30 ◌⊗◌
◌⊗◌ : {a b : Bool} {P Q : Type 0} → ((a ≡ true) ↔ P) → ((b ≡ true) ↔ Q) → ((a && b) ≡ true) ↔ (P × Q)
◌⊗◌ {a = true} {b} f g = (λ h. (f.0 refl, g.0 h), λ p. g.1 p.1)
◌⊗◌ {a = false} {b} f g = (λ h. absurd (false≢true h), λ p. f.1 p.0)

balanced_is : (state : State) (set a b equalization : ℕ) → (is_balanced state set a b equalization ≡ true) ↔ Balance state set a b equalization
balanced_is Charged set a b equalization = same b 0
balanced_is ApplyingService set a b equalization = at_most (5 * a + 2 * b) (5 * set) ⊗ at_most (5 * a + 2 * b) (7 * equalization + 6)
balanced_is HoldingService set a b equalization = at_most (5 * a + 2 * b) (5 * set)
balanced_is ApplyingEmergency set a b equalization = at_most (12 * a + 2 * b) (12 * set) ⊗ at_most (12 * a + 2 * b) (14 * equalization + 13)
balanced_is HoldingEmergency set a b equalization = at_most (12 * a + 2 * b) (12 * set)
balanced_is Charging set a b equalization = same b 0

pub sound_is : (c : Consist) (k : Brake) → (is_sound c k ≡ true) ↔ Sound c k
unfolding is_sound
sound_is c k =
    let all =
    at_most k.a c.set
    ⊗ at_most k.b most_b
    ⊗ at_most (7 * k.equalization) (6 * c.set)
    ⊗ at_most k.fall most_fall
    ⊗ at_most k.hold most_pressure
    ⊗ at_most k.last_front most_pressure
    ⊗ at_most k.last_rear most_pressure
    ⊗ at_most k.last_time most_time
    ⊗ at_most (heard_number k.heard) (most_time + 1)
    ⊗ balanced_is k.state c.set k.a k.b k.equalization in (
      λ h.
          let (((((((((a, b), equalization), fall), hold), front), rear), time), heard), balance) = all.0 h in
          record { a = a; b = b; equalization = equalization; fall = fall; hold = hold; front = front; rear = rear; time = time; heard = heard; balance = balance },
      λ s. all.1 (((((((((s.a, s.b), s.equalization), s.fall), s.hold), s.front), s.rear), s.time), s.heard), s.balance),
    )

-- ---- the brake of an opening

pub at_opening_passes : (c : Consist) (choice : Choice) → is_at_opening c (at_opening c choice) ≡ true
unfolding is_at_opening
at_opening_passes c choice = rw (eq-eqb c.set c.set refl)

-- of a session that has taken no sample
pub is_at_opening_lem : (c : Consist) (k : Brake) → is_at_opening c k ≡ true → k.sampled ≡ false → k ≡ at_opening c k.choice
unfolding is_at_opening
is_at_opening_lem c k h sampled =
    let all =
    same (state_number k.state) 0
    ⊗ same k.hold c.set
    ⊗ same k.a c.set
    ⊗ same k.b 0
    ⊗ same k.equalization 0
    ⊗ same k.fall 0
    ⊗ same k.last_front 0
    ⊗ same k.last_rear 0
    ⊗ same k.last_time 0
    ⊗ same (heard_number k.heard) 0 in
    let (((((((((state, hold), a), b), equalization), fall), front), rear), time), heard) = all.0 h in
    brake_one k (at_opening c k.choice) (rw (state, hold, a, b, equalization, fall, front, rear, time, heard, sampled))
