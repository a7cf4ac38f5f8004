-- The rules of the six states, and the update of one accepted sample. Definitions only.
use Rattle.std.specs.Prelude.{ℕ, ◌+◌, ◌*◌, min, max, cond, leb}
use Rattle.consist.specs.declared.Consist.{Consist}
use Rattle.sample.specs.declared.RearPressure.{RearPressure}
use Rattle.brake.specs.declared.State.{State}
use Rattle.brake.specs.declared.State.TheVariants.{Charged, ApplyingService, HoldingService, ApplyingEmergency, HoldingEmergency, Charging}
use Rattle.brake.specs.declared.Brake.{Brake}
use Rattle.reading.specs.declared.Reading.{Reading}
use Rattle.reading.specs.Readings.{heard_after, reading_of}
use Rattle.air.specs.declared.Air.{Air}
use Rattle.air.specs.Air.{air_of, with_state, with_hold, with_a, with_last}
use Rattle.air.specs.Rules.{start_applying, start_charging, fall_in_service, fall_in_emergency}

-- ---- the states

-- "0 and 5: on application, start applying. Otherwise hold becomes the greater of hold and front"
unfoldable pub in_charged : Consist → Air → Reading → Air
in_charged c k r = cond r.application (start_applying c k r) (with_hold k (max k.hold r.front))

-- "and in 5, if A is at least nominal the state becomes 0, else A becomes the lesser of nominal and A plus recharge times elapsed"
unfoldable pub recharged : Consist → Air → Reading → Air
recharged c k r = cond (leb r.nominal k.a) (with_state k Charged) (with_a k (min r.nominal (k.a + c.recharge * r.elapsed)))

unfoldable pub in_charging : Consist → Air → Reading → Air
in_charging c k r = cond r.application (start_applying c k r) (recharged c (with_hold k (max k.hold r.front)) r)

-- "the greater of equalization and front"
abbrev pub level_of : Air → Reading → ℕ
level_of k r = max k.equalization r.front

-- "else fall to the greater of equalization and front. At or below that level afterwards: state 2, hold = front."
unfoldable pub fall_or_hold : Air → Reading → Air
fall_or_hold k r =
    let fallen = fall_in_service k (level_of k r) r.elapsed in
    cond (leb fallen.a (level_of k r)) (with_hold (with_state fallen HoldingService) r.front) fallen

-- "1: if rate is -1,500 or lower, start applying; else on release, start charging; else fall .."
unfoldable pub in_applying_service : Consist → Air → Reading → Air
in_applying_service c k r = cond r.emergency (start_applying c k r) (cond r.release (start_charging k r.front) (fall_or_hold k r))

-- "2: on release, start charging; else on application, start applying."
unfoldable pub in_holding_service : Consist → Air → Reading → Air
in_holding_service c k r = cond r.release (start_charging k r.front) (cond r.application (start_applying c k r) k)

-- "3: fall to equalization; at or below it afterwards, state 4. No other test."
unfoldable pub in_applying_emergency : Air → Reading → Air
in_applying_emergency k r =
    let fallen = fall_in_emergency k r.elapsed in
    cond (leb fallen.a k.equalization) (with_state fallen HoldingEmergency) fallen

-- "4: on release, start charging."
unfoldable pub in_holding_emergency : Air → Reading → Air
in_holding_emergency k r = cond r.release (start_charging k r.front) k

abbrev pub rule_of : State → Consist → Air → Reading → Air
rule_of Charged c k r = in_charged c k r
rule_of ApplyingService c k r = in_applying_service c k r
rule_of HoldingService c k r = in_holding_service c k r
rule_of ApplyingEmergency c k r = in_applying_emergency k r
rule_of HoldingEmergency c k r = in_holding_emergency k r
rule_of Charging c k r = in_charging c k r

-- ---- one accepted sample: its time, front and rear. No pressure rule reads the speed.

-- of a rear "the value so counted is held as last rear"; R-7: its choice stands, and a present rear is heard
unfoldable pub update_of : Consist → Brake → ℕ → ℕ → RearPressure → Brake
update_of c k time front rear =
    let r = reading_of c k time front rear in
    with_last (rule_of k.state c (air_of k) r) front r.rear time k.choice (heard_after k.heard time rear)
