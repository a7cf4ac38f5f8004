-- The figures, computed. Assumes nothing.
use mathlib.Core.Path.{refl}
use Rattle.whole.specs.Floor.{floor_div}
use Rattle.whole.specs.Ceiling.{ceil_div}
use Rattle.whole.specs.Root.{digits, root_of}
use Rattle.whole.specs.Figures.{Figures}

pub figures : Figures
unfolding floor_div ceil_div digits root_of
figures = record {
  below_zero = refl;
  whole_below = refl;
  half_up = refl;
  whole_up = refl;
  root_exact = refl;
  root_under = refl;
  root_0 = refl;
  root_1 = refl;
  root_3 = refl;
  root_4 = refl;
  half_word = refl;
  past_half = refl;
  last_square = refl;
  under_last_square = refl;
  word = refl;
}
