-- The worked cases of the air brakes, computed. Assumes nothing.
use mathlib.Core.Path.{refl}
use Rattle.whole.specs.Floor.{floor_div}
use Rattle.whole.specs.Ceiling.{ceil_div}
use Rattle.reading.specs.Readings.{elapsed_of, rate_of, heard_after, is_kept, lost_rear, rear_taken, nominal_of, reading_of, application, release, emergency}
use Rattle.air.specs.Rules.{start_emergency, start_service, start_applying, start_charging, fall_in_service, fall_in_emergency}
use Rattle.air.specs.Emergency.{emergency_air}
use Rattle.update.specs.Rules.{in_charged, recharged, in_charging, fall_or_hold, in_applying_service, in_holding_service, in_applying_emergency, in_holding_emergency, update_of}
use Rattle.laws.specs.BrakeFigures.{BrakeFigures}

pub brake_figures : BrakeFigures
unfolding floor_div ceil_div elapsed_of rate_of heard_after is_kept lost_rear rear_taken nominal_of reading_of application release emergency start_emergency start_service start_applying start_charging fall_in_service fall_in_emergency in_charged recharged in_charging fall_or_hold in_applying_service in_holding_service in_applying_emergency in_holding_emergency update_of emergency_air
brake_figures = record {
  half_down = refl;
  rear_higher = refl;
  not_below = refl;
  first_sample = refl;
  not_yet = refl;
  rate_down = refl;
  rate_plain = refl;
  rate_held = refl;
  rising = refl;
  recharging = refl;
  recharged = refl;
  above_nominal = refl;
  no_new_start = refl;
  level_above = refl;
  level_reached = refl;
  release_first = refl;
  applied_again = refl;
  no_release = refl;
  emergency_held = refl;
  emergency_released = refl;
  five_seconds = refl;
  six_seconds = refl;
  none_yet = refl;
  everlasting = refl;
  everlasting_none_yet = refl;
  heard_again = refl;
  behind_charged = refl;
  behind_nominal = refl;
  behind_applying = refl;
  behind_holding = refl;
}
