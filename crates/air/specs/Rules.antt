-- What a start of applying, a start of charging and a fall change. Definitions only.
-- "All down": a quotient of natural numbers is.
use Rattle.std.specs.Prelude.{ℕ, ◌+◌, ◌-◌, ◌*◌, ◌/◌, min, cond}
use Rattle.whole.specs.Ceiling.{ceil_div}
use Rattle.consist.specs.declared.Consist.{Consist}
use Rattle.brake.specs.declared.State.TheVariants.{ApplyingService, ApplyingEmergency, Charging}
use Rattle.brake.specs.Equalization.{equalization_service}
use Rattle.reading.specs.declared.Reading.{Reading}
use Rattle.air.specs.declared.Air.{Air}
use Rattle.air.specs.Air.{with_state, with_hold, with_a, with_b, with_equalization, with_fall}

-- ---- start applying

-- "equalization = (5A + 2B + 7 nominal) / 14"
abbrev pub equalization_emergency : ℕ → ℕ → ℕ → ℕ
equalization_emergency a b nominal = (5 * a + 2 * b + 7 * nominal) / 14

-- "then A = (5A + 7 nominal) / 12"
abbrev pub combined : ℕ → ℕ → ℕ
combined a nominal = (5 * a + 7 * nominal) / 12

-- "fall = a tenth of (A minus equalization) rounded up, 0 if not positive"
abbrev pub fall_emergency : ℕ → ℕ → ℕ
fall_emergency a equalization = ceil_div (a - equalization) 10

-- in this order, and "state 3"
unfoldable pub start_emergency : Air → ℕ → Air
start_emergency k nominal =
    let k₁ = with_equalization k (equalization_emergency k.a k.b nominal) in
    let k₂ = with_a k₁ (combined k₁.a nominal) in
    with_fall (with_state k₂ ApplyingEmergency) (fall_emergency k₂.a k₂.equalization)

-- "fall = 2,000 × set / (7 × application time)"
abbrev pub fall_service : Consist → ℕ
fall_service c = 2000 * c.set / (7 * c.application)

-- "equalization = (5A + 2B) / 7, state 1"
unfoldable pub start_service : Consist → Air → Air
start_service c k =
    with_fall (with_state (with_equalization k (equalization_service k.a k.b)) ApplyingService) (fall_service c)

-- "Start applying: emergency on a fall of 15 psi in a second or faster .. Otherwise service"
unfoldable pub start_applying : Consist → Air → Reading → Air
start_applying c k r = cond r.emergency (start_emergency k r.nominal) (start_service c k)

-- ---- start charging: "state 5, B = 0, hold = front"

unfoldable pub start_charging : Air → ℕ → Air
start_charging k front = with_hold (with_b (with_state k Charging) 0) front

-- ---- a fall

-- "A fall lowers A by fall times elapsed, not past the level and never upward"
abbrev pub drop_of : Air → ℕ → ℕ → ℕ
drop_of k level elapsed = min (k.a - level) (k.fall * elapsed)

-- A falls, B gains
abbrev pub fall_by : Air → ℕ → ℕ → Air
fall_by k drop gain = with_b (with_a k (k.a - drop)) (k.b + gain)

-- "B gains 5/2 of the drop, down, in state 1"
unfoldable pub fall_in_service : Air → ℕ → ℕ → Air
fall_in_service k level elapsed = let drop = drop_of k level elapsed in fall_by k drop (5 * drop / 2)

-- in state 3 the level is "equalization", and B gains "6 times the drop"
unfoldable pub fall_in_emergency : Air → ℕ → Air
fall_in_emergency k elapsed = let drop = drop_of k k.equalization elapsed in fall_by k drop (6 * drop)
