-- The invariant of a brake, as facts and as a test. Definitions only.
use Rattle.std.specs.Prelude.{◌≡◌, ℕ, ◌+◌, ◌-◌, ◌*◌, ◌^◌, ◌≤◌, Bool, ◌&&◌, leb, eqb}
use Rattle.consist.specs.declared.Consist.{Consist}
use Rattle.brake.specs.declared.State.{State}
use Rattle.brake.specs.declared.State.TheVariants.{Charged, ApplyingService, HoldingService, ApplyingEmergency, HoldingEmergency, Charging}
use Rattle.brake.specs.declared.Brake.{Brake}
use Rattle.brake.specs.Rear.{heard_number}

-- ---- the greatest values

-- a pressure of 160 psi
abbrev pub most_pressure : ℕ
most_pressure = 16000

-- 24 bits of seconds
abbrev pub most_time : ℕ
most_time = 2 ^ 24 - 1

-- B at equalization in an emergency from the highest set pressure: 6/7 of 11,000, and 6 of rounding
abbrev pub most_b : ℕ
most_b = 9434

-- the fall of the highest set pressure and the shortest application time
abbrev pub most_fall : ℕ
most_fall = 3142

-- ---- A and B together

-- in states 0, 1, 2 and 5, 5A + 2B is at most 5 × set (in 0 and 5 as B is 0), in 3 and 4, 12A + 2B at most 12 × set;
-- while A falls, the sum is also no more than equalization was taken from
abbrev pub Balance : State → ℕ → ℕ → ℕ → ℕ → Type 0
Balance Charged set a b equalization = b ≡ 0
Balance ApplyingService set a b equalization = (5 * a + 2 * b ≤ 5 * set) × (5 * a + 2 * b ≤ 7 * equalization + 6)
Balance HoldingService set a b equalization = 5 * a + 2 * b ≤ 5 * set
Balance ApplyingEmergency set a b equalization = (12 * a + 2 * b ≤ 12 * set) × (12 * a + 2 * b ≤ 14 * equalization + 13)
Balance HoldingEmergency set a b equalization = 12 * a + 2 * b ≤ 12 * set
Balance Charging set a b equalization = b ≡ 0

abbrev pub is_balanced : State → ℕ → ℕ → ℕ → ℕ → Bool
is_balanced Charged set a b equalization = eqb b 0
is_balanced ApplyingService set a b equalization = leb (5 * a + 2 * b) (5 * set) && leb (5 * a + 2 * b) (7 * equalization + 6)
is_balanced HoldingService set a b equalization = leb (5 * a + 2 * b) (5 * set)
is_balanced ApplyingEmergency set a b equalization = leb (12 * a + 2 * b) (12 * set) && leb (12 * a + 2 * b) (14 * equalization + 13)
is_balanced HoldingEmergency set a b equalization = leb (12 * a + 2 * b) (12 * set)
is_balanced Charging set a b equalization = eqb b 0

-- ---- the invariant

pub record Sound (c : Consist) (k : Brake) : Type 0 where
  pub a : k.a ≤ c.set
  pub b : k.b ≤ most_b
  pub equalization : 7 * k.equalization ≤ 6 * c.set
  pub fall : k.fall ≤ most_fall
  pub hold : k.hold ≤ most_pressure
  pub front : k.last_front ≤ most_pressure
  pub rear : k.last_rear ≤ most_pressure
  pub time : k.last_time ≤ most_time
  pub heard : heard_number k.heard ≤ most_time + 1
  pub balance : Balance k.state c.set k.a k.b k.equalization

unfoldable pub is_sound : Consist → Brake → Bool
is_sound c k =
    leb k.a c.set
    && leb k.b most_b
    && leb (7 * k.equalization) (6 * c.set)
    && leb k.fall most_fall
    && leb k.hold most_pressure
    && leb k.last_front most_pressure
    && leb k.last_rear most_pressure
    && leb k.last_time most_time
    && leb (heard_number k.heard) (most_time + 1)
    && is_balanced k.state c.set k.a k.b k.equalization
