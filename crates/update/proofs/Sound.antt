-- The invariant: that what the rules change has it, and that an update keeps it. Assumes nothing.
use mathlib.Core.Path.{◌≡◌, refl, sym, subst}
use mathlib.Core.Bool.{Bool, true, false, cond}
use Prim.Native.Nat.{ℕ, ◌+◌, ◌*◌, ◌≤◌, max, min}
use native.Mathlib.Omega.{arith}
use lib.Dec.{leb}
use Rattle.whole.specs.Ceiling.{ceil_div}
use Rattle.consist.specs.declared.Consist.{Consist}
use Rattle.consist.specs.Sound as consist
use Rattle.sample.specs.declared.RearPressure.{RearPressure}
use Rattle.sample.specs.declared.RearPressure.TheVariants.{Present, Lost}
use Rattle.brake.specs.declared.State.{State}
use Rattle.brake.specs.declared.State.TheVariants.{Charged, ApplyingService, HoldingService, ApplyingEmergency, HoldingEmergency, Charging}
use Rattle.brake.specs.declared.Choice.{Choice}
use Rattle.brake.specs.declared.Choice.TheVariants.{FiveSeconds, Everlasting}
use Rattle.brake.specs.declared.Brake.{Brake}
use Rattle.brake.specs.Rear.{Heard, heard_number}
use Rattle.brake.specs.Sound.{most_pressure, most_time, Sound}
use Rattle.reading.specs.declared.Reading.{Reading}
use Rattle.reading.specs.Readings.{heard_after, is_kept, lost_rear, rear_taken, nominal_of, reading_of}
use Rattle.air.specs.declared.Air.{Air}
use Rattle.air.specs.Air.{air_of, with_state, with_hold, with_a, with_last}
use Rattle.air.specs.Rules.{start_emergency, start_service, start_applying, start_charging, fall_in_service, fall_in_emergency}
use Rattle.update.specs.Rules.{level_of, in_charged, recharged, in_charging, fall_or_hold, in_applying_service, in_holding_service, in_applying_emergency, in_holding_emergency, rule_of, update_of}
use Rattle.update.specs.Sound.{AirSound, Usable, RearMost, InRange}
use Rattle.air.proofs.Falls.{service_fall_most}
use Rattle.update.proofs.Rooms.{balanced}

pub air_sound : (c : Consist) (k : Brake) → Sound c k → AirSound c (air_of k)
air_sound c k s = record { a = s.a; b = s.b; equalization = s.equalization; fall = s.fall; hold = s.hold; balance = s.balance }

module _ (c : Consist) where
  either : (b : Bool) (x y : Air) → AirSound c x → AirSound c y → AirSound c (cond b x y)
  either true x y s t = s
  either false x y s t = t

  -- the invariant, from its facts with a state that is known
  from : (k : Air) (state : State) → k.state ≡ state → AirSound c (with_state k state) → AirSound c k
  from k state e s = subst (λ (x : State). AirSound c (with_state k x)) (sym e) s

  hold_sound : (k : Air) (hold : ℕ) → hold ≤ most_pressure → AirSound c k → AirSound c (with_hold k hold)
  hold_sound k hold h s = record { a = s.a; b = s.b; equalization = s.equalization; fall = s.fall; hold = h; balance = s.balance }

  last_sound : (k : Air) (front rear time : ℕ) (choice : Choice) (heard : Heard)
      → front ≤ most_pressure → rear ≤ most_pressure → time ≤ most_time → heard_number heard ≤ most_time + 1 → AirSound c k
      → Sound c (with_last k front rear time choice heard)
  last_sound k front rear time choice heard f r t h s = record {
    a = s.a;
    b = s.b;
    equalization = s.equalization;
    fall = s.fall;
    hold = s.hold;
    front = f;
    rear = r;
    time = t;
    heard = h;
    balance = s.balance;
  }

-- ---- the rules

module _ (c : Consist) (k : Air) (r : Reading) (g : consist.Sound c) (s : AirSound c k) (nominal : r.nominal ≤ c.set) (front : r.front ≤ most_pressure) where
  emergency_sound : 5 * k.a + 2 * k.b ≤ 5 * c.set → AirSound c (start_emergency k r.nominal)
  unfolding start_emergency ceil_div
  emergency_sound h = omega arith

  service_sound : 5 * k.a + 2 * k.b ≤ 5 * c.set → AirSound c (start_service c k)
  unfolding start_service
  service_sound h = omega (arith, service_fall_most c g)

  applying_sound : 5 * k.a + 2 * k.b ≤ 5 * c.set → AirSound c (start_applying c k r)
  unfolding start_applying
  applying_sound h = either c r.emergency _ _ (emergency_sound h) (service_sound h)

  charging_sound : AirSound c (start_charging k r.front)
  unfolding start_charging
  charging_sound = omega arith

  raised_sound : AirSound c (with_hold k (max k.hold r.front))
  raised_sound = hold_sound c k _ (omega arith) s

  in_charged_lem : k.state ≡ Charged → AirSound c (in_charged c k r)
  unfolding in_charged
  in_charged_lem e =
      let t = balanced c k Charged e s in
      either c r.application _ _ (applying_sound (omega arith)) raised_sound

  in_charging_lem : k.state ≡ Charging → AirSound c (in_charging c k r)
  unfolding in_charging recharged
  in_charging_lem e =
      let t = balanced c k Charging e s in
      let raised = with_hold k (max k.hold r.front) in
      let higher = with_a raised (min r.nominal (k.a + c.recharge * r.elapsed)) in
      let full : AirSound c (with_state raised Charged) = omega arith in
      let more : AirSound c (with_state higher Charging) = omega arith in
      either c r.application _ _ (applying_sound (omega arith)) (either c (leb r.nominal k.a) _ _ full (from c higher Charging e more))

  in_applying_service_lem : k.state ≡ ApplyingService → AirSound c (in_applying_service c k r)
  unfolding in_applying_service fall_or_hold fall_in_service
  in_applying_service_lem e =
      let t = balanced c k ApplyingService e s in
      let fallen = fall_in_service k (level_of k r) r.elapsed in
      let falling : AirSound c (with_state fallen ApplyingService) = omega arith in
      let holding : AirSound c (with_hold (with_state fallen HoldingService) r.front) = omega arith in
      either c r.emergency _ _ (applying_sound (omega arith))
      (either c r.release _ _ charging_sound
      (either c (leb fallen.a (level_of k r)) _ _ holding (from c fallen ApplyingService e falling)))

  in_holding_service_lem : k.state ≡ HoldingService → AirSound c (in_holding_service c k r)
  unfolding in_holding_service
  in_holding_service_lem e =
      let t = balanced c k HoldingService e s in
      either c r.release _ _ charging_sound (either c r.application _ _ (applying_sound (omega arith)) s)

  in_applying_emergency_lem : k.state ≡ ApplyingEmergency → AirSound c (in_applying_emergency k r)
  unfolding in_applying_emergency fall_in_emergency
  in_applying_emergency_lem e =
      let t = balanced c k ApplyingEmergency e s in
      let fallen = fall_in_emergency k r.elapsed in
      let falling : AirSound c (with_state fallen ApplyingEmergency) = omega arith in
      let holding : AirSound c (with_state fallen HoldingEmergency) = omega arith in
      either c (leb fallen.a k.equalization) _ _ holding (from c fallen ApplyingEmergency e falling)

  in_holding_emergency_lem : AirSound c (in_holding_emergency k r)
  unfolding in_holding_emergency
  in_holding_emergency_lem = either c r.release _ _ charging_sound s

  ruled_sound : (state : State) → k.state ≡ state → AirSound c (rule_of state c k r)
  ruled_sound Charged e = in_charged_lem e
  ruled_sound ApplyingService e = in_applying_service_lem e
  ruled_sound HoldingService e = in_holding_service_lem e
  ruled_sound ApplyingEmergency e = in_applying_emergency_lem e
  ruled_sound HoldingEmergency e = in_holding_emergency_lem
  ruled_sound Charging e = in_charging_lem e

-- ---- the update

lost_sound : (c : Consist) (k : Brake) (time front : ℕ) (choice : Choice) → Sound c k → front ≤ most_pressure → lost_rear choice k time front ≤ most_pressure
unfolding lost_rear
lost_sound c k time front choice s f = go choice
  where
    last : (b : Bool) → cond b k.last_rear front ≤ most_pressure
    last true = s.rear
    last false = f

    go : (choice : Choice) → lost_rear choice k time front ≤ most_pressure
    go FiveSeconds = last (is_kept k.heard time)
    go Everlasting = last k.sampled

rear_sound : (c : Consist) (k : Brake) (time front : ℕ) (rear : RearPressure) → Sound c k → front ≤ most_pressure → RearMost rear
    → rear_taken k time front rear ≤ most_pressure
unfolding rear_taken
rear_sound c k time front (Present rear) s f h = h
rear_sound c k time front Lost s f h = lost_sound c k time front k.choice s f

heard_sound : (c : Consist) (k : Brake) (time : ℕ) (rear : RearPressure) → Sound c k → time ≤ most_time
    → heard_number (heard_after k.heard time rear) ≤ most_time + 1
unfolding heard_after
heard_sound c k time (Present rear) s t = omega arith
heard_sound c k time Lost s t = s.heard

pub updated_sound : (c : Consist) (k : Brake) (time front : ℕ) (rear : RearPressure) → Usable c k → InRange time front rear
    → Sound c (update_of c k time front rear)
unfolding nominal_of reading_of update_of
updated_sound c k time front rear s h =
    last_sound c _ front _ time k.choice _ h.front_most (rear_sound c k time front rear s.brake h.front_most h.rear_most) h.time_most
    (heard_sound c k time rear s.brake h.time_most)
    (ruled_sound c (air_of k) (reading_of c k time front rear) s.consist (air_sound c k s.brake) (omega arith) h.front_most k.state refl)
