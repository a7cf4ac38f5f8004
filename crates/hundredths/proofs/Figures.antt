-- The figures hold: both sides of each compute to the same. Assumes nothing.
use mathlib.Core.Path.{refl}
use lib.Ieee.{is_nan, of_bits}
use Rattle.whole.specs.Ceiling.{ceil_div}
use Rattle.hundredths.specs.Reading.{hundredths_of, is_bad, speed_of, pressure_of}
use Rattle.hundredths.specs.Figures.{Figures}

pub figures : Figures
unfolding ceil_div of_bits is_nan hundredths_of is_bad speed_of pressure_of
figures =
    record {
      speed_100 = refl;
      speed_past_100 = refl;
      pressure_160 = refl;
      pressure_past_160 = refl;
      speed_minus_zero = refl;
      pressure_minus_zero = refl;
      speed_least = refl;
      pressure_least = refl;
      speed_below = refl;
      pressure_below = refl;
      speed_nan = refl;
      pressure_nan = refl;
      speed_infinite = refl;
      pressure_infinite = refl;
      speed_minus_infinite = refl;
      pressure_minus_infinite = refl;
    }
