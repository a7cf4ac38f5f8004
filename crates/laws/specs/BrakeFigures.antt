-- Worked cases of the rules of the air brakes, as one statement. Its proof is `brake_figures` of proofs/BrakeFigures.antt.
use Rattle.std.specs.Prelude.{◌≡◌, true, ℕ}
use Rattle.consist.specs.Figures.{train}
use Rattle.sample.specs.declared.RearPressure.TheVariants.{Present, Lost}
use Rattle.brake.specs.declared.State.{State}
use Rattle.brake.specs.declared.State.TheVariants.{Charged, ApplyingService, HoldingService, ApplyingEmergency, HoldingEmergency, Charging}
use Rattle.brake.specs.declared.Choice.{Choice}
use Rattle.brake.specs.declared.Choice.TheVariants.{FiveSeconds, Everlasting}
use Rattle.brake.specs.Rear.{Heard}
use Rattle.brake.specs.Rear.{Never, At}
use Rattle.brake.specs.declared.Brake.{Brake}
use Rattle.brake.specs.Brake.{at_opening}
use Rattle.reading.specs.Readings.{nominal_of}
use Rattle.air.specs.Air.{air_of}
use Rattle.air.specs.Emergency.{emergency_air}
use Rattle.update.specs.Rules.{update_of}

-- a brake that has had a sample, under this choice, and whose rear was last present then
abbrev pub brake_under : Choice → Heard → State → ℕ → ℕ → ℕ → ℕ → ℕ → ℕ → ℕ → ℕ → Brake
brake_under choice heard state hold a b equalization fall front rear time = record {
  state = state;
  hold = hold;
  a = a;
  b = b;
  equalization = equalization;
  fall = fall;
  last_front = front;
  last_rear = rear;
  last_time = time;
  sampled = true;
  choice = choice;
  heard = heard;
}

-- by default, and whose last sample had a present rear
abbrev pub brake : State → ℕ → ℕ → ℕ → ℕ → ℕ → ℕ → ℕ → ℕ → Brake
brake state hold a b equalization fall front rear time = brake_under FiveSeconds (At time) state hold a b equalization fall front rear time

-- a train that charges at 9,000, A 8,950, last rear 8,000, at 12 s: by what its rear was last present, its nominal is 8,500 or 9,000
abbrev pub charging : Choice → Heard → Brake
charging choice heard = brake_under choice heard Charging 9000 8950 0 6428 85 9000 8000 12

-- a second later, with the rear lost: counted as last rear, or as front
abbrev pub kept_on : Choice → Heard → Brake
kept_on choice heard = brake_under choice heard Charged 9000 8950 0 6428 85 9000 8000 13

abbrev pub given_up : Choice → Heard → Brake
given_up choice heard = brake_under choice heard Charging 9000 9000 0 6428 85 9000 9000 13

pub record BrakeFigures : Type 0 where
  -- the half down; a rear above front; not below 0
  pub half_down : nominal_of 9000 8000 7999 ≡ 9000
  pub rear_higher : nominal_of 9000 8000 8500 ≡ 9000
  pub not_below : nominal_of 7000 16000 0 ≡ 0
  -- a first sample has rate 0 and a lost rear is front; more than 300 under set is service, and hold stays
  pub first_sample : update_of train (at_opening train FiveSeconds) 0 6999 Lost ≡ brake_under FiveSeconds Never ApplyingService 9000 9000 0 6428 85 6999 6999 0
  -- exactly 300 under is no application
  pub not_yet : update_of train (at_opening train FiveSeconds) 0 8700 (Present 8650) ≡ brake Charged 9000 9000 0 0 0 8700 8650 0
  -- a fall of 2,999 in 2 seconds is an emergency: its rate is -1,500
  pub rate_down : update_of train (brake Charged 9000 7000 5000 0 0 9000 9000 10) 12 6001 (Present 6001) ≡ brake ApplyingEmergency 9000 8166 5000 7714 46 6001 6001 12
  -- a fall of 401 in 4 seconds is an application: its rate is -101
  pub rate_plain : update_of train (brake Charged 8000 9000 0 0 0 9000 9000 10) 14 8599 (Present 8700) ≡ brake ApplyingService 8000 9000 0 6428 85 8599 8700 14
  -- a fall of 400 in 4 seconds is none
  pub rate_held : update_of train (brake Charged 8000 9000 0 0 0 8500 8500 10) 14 8100 (Present 8100) ≡ brake Charged 8100 9000 0 0 0 8100 8100 14
  -- in state 0 an application wins over rising pressure
  pub rising : update_of train (brake Charged 9000 9000 0 0 0 8000 8000 10) 11 8500 (Present 8500) ≡ brake ApplyingService 9000 9000 0 6428 85 8500 8500 11
  -- in state 5 A is recharged and nominal reached, and the state stays
  pub recharging : update_of train (brake Charging 8000 8950 0 6428 85 9000 9000 10) 12 9000 Lost ≡ brake_under FiveSeconds (At 10) Charging 9000 9000 0 6428 85 9000 9000 12
  -- state 0 comes at the next sample
  pub recharged : update_of train (brake Charging 9000 9000 0 6428 85 9000 9000 12) 13 9000 (Present 9000) ≡ brake Charged 9000 9000 0 6428 85 9000 9000 13
  -- A above nominal is not lowered
  pub above_nominal : update_of train (brake Charging 8000 8950 0 6428 85 9000 8000 10) 12 9000 Lost ≡ brake_under FiveSeconds (At 10) Charged 9000 8950 0 6428 85 9000 8000 12
  -- in state 1 a plain application is no new start: A falls by 2 × 85, B gains 5/2 of it
  pub no_new_start : update_of train (brake ApplyingService 9000 9000 0 6428 85 8800 8800 10) 12 8000 (Present 8000) ≡ brake ApplyingService 9000 8830 425 6428 85 8000 8000 12
  -- in state 1 a level above A drops nothing and is held at once
  pub level_above : update_of train (brake ApplyingService 9000 8000 2500 6428 85 8500 8500 10) 11 8450 (Present 8450) ≡ brake HoldingService 8450 8000 2500 6428 85 8450 8450 11
  -- in state 1 a fall stops at front
  pub level_reached : update_of train (brake ApplyingService 9000 8050 2375 6428 85 8000 8000 10) 12 8000 (Present 8000) ≡ brake HoldingService 8000 8000 2500 6428 85 8000 8000 12
  -- in state 2 release comes before application: state 5, B 0, hold front
  pub release_first : update_of train (brake HoldingService 9000 8000 2500 6428 85 7000 7000 10) 11 7101 (Present 7101) ≡ brake Charging 7101 8000 0 6428 85 7101 7101 11
  -- in state 2 an application starts service anew
  pub applied_again : update_of train (brake HoldingService 8000 8000 2500 6428 85 8000 8000 10) 11 7699 (Present 7699) ≡ brake ApplyingService 8000 8000 2500 6428 85 7699 7699 11
  -- in state 3 A falls, B gains six times as much, and release is no test
  pub no_release : update_of train (brake ApplyingEmergency 9000 8166 5000 7714 46 5000 5000 10) 12 9000 (Present 9000) ≡ brake ApplyingEmergency 9000 8074 5552 7714 46 9000 9000 12
  -- in state 3, A not above equalization: no fall, state 4
  pub emergency_held : update_of train (brake ApplyingEmergency 9000 7000 7000 7000 0 5000 5000 10) 11 5000 (Present 5000) ≡ brake HoldingEmergency 9000 7000 7000 7000 0 5000 5000 11
  -- in state 4 release starts charging
  pub emergency_released : update_of train (brake HoldingEmergency 9000 7714 7712 7714 46 5000 5000 10) 11 5101 (Present 5101) ≡ brake Charging 5101 7714 0 7714 46 5101 5101 11
  -- R-7: a lost rear counts as the last present value for 5 seconds, then as front, and what it counts as is held as last rear
  pub five_seconds : update_of train (charging FiveSeconds (At 8)) 13 9000 Lost ≡ kept_on FiveSeconds (At 8)
  pub six_seconds : update_of train (charging FiveSeconds (At 7)) 13 9000 Lost ≡ given_up FiveSeconds (At 7)
  -- where there was none yet, as front
  pub none_yet : update_of train (charging FiveSeconds Never) 13 9000 Lost ≡ given_up FiveSeconds Never
  -- by the old choice as last rear, for ever
  pub everlasting : update_of train (charging Everlasting (At 0)) 13 9000 Lost ≡ kept_on Everlasting (At 0)
  pub everlasting_none_yet : update_of train (charging Everlasting Never) 13 9000 Lost ≡ kept_on Everlasting Never
  -- a present rear is heard, under either choice
  pub heard_again : update_of train (charging Everlasting Never) 13 9000 (Present 8000) ≡ kept_on Everlasting (At 13)
  -- an emergency behind the penalty: of a charged train, and with nominal at 8,000, equalization is taken from A as it was
  pub behind_charged : emergency_air train (brake Charged 9000 9000 0 0 0 9000 9000 10) ≡ air_of (brake ApplyingEmergency 9000 9000 0 7714 129 9000 9000 10)
  pub behind_nominal : emergency_air train (brake Charging 9000 9000 0 6428 85 8000 6000 10) ≡ air_of (brake ApplyingEmergency 9000 8416 0 7214 121 8000 6000 10)
  -- in states 3 and 4 all is as it is held
  pub behind_applying : emergency_air train (brake ApplyingEmergency 9000 8166 5000 7714 46 8000 6000 10) ≡ air_of (brake ApplyingEmergency 9000 8166 5000 7714 46 8000 6000 10)
  pub behind_holding : emergency_air train (brake HoldingEmergency 9000 7714 7712 7714 46 8000 6000 10) ≡ air_of (brake HoldingEmergency 9000 7714 7712 7714 46 8000 6000 10)
