-- The figures, computed. Assumes nothing.
use mathlib.Core.Path.{refl}
use Rattle.whole.specs.Floor.{floor_div}
use Rattle.trend.specs.Points.{sums_of}
use Rattle.trend.specs.Line.{slope_top, intercept_top, bottom, levels_off}
use Rattle.trend.specs.Result.{dividend, divisor, time_of, result_of}
use Rattle.trend.specs.Figures.{Figures}

pub figures : Figures
unfolding floor_div sums_of slope_top intercept_top bottom levels_off dividend divisor time_of result_of
figures = record {
  waits = refl;
  ends = refl;
  five_points = refl;
  three_points = refl;
  below_equalization = refl;
  half = refl;
  less_than_half = refl;
  no_line = refl;
  least = refl;
  greatest = refl;
}
