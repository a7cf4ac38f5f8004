-- The figures, computed. Assumes nothing.
use mathlib.Core.Path.{refl}
use Rattle.whole.specs.Floor.{floor_div}
use Rattle.blocks.specs.Blocks.{sum_to}
use Rattle.track.specs.Track.{feet, grade_feet, curvature_feet, grade_under, curvature_under}
use Rattle.shares.specs.Shares.{grade_share, curvature_share, grade_shares, ground_under}
use Rattle.shares.specs.Figures.{Figures}

pub figures : Figures
unfolding floor_div sum_to feet grade_feet curvature_feet grade_under curvature_under grade_share curvature_share grade_shares ground_under
figures = record {
  halves_up = refl;
  one_up = refl;
  none_up = refl;
  halves_down = refl;
  one_down = refl;
  none_down = refl;
  empties_first_lem = refl;
  evenly = refl;
  begins_at_0 = refl;
}
