-- The track's figures, computed. Assumes nothing.
use mathlib.Core.Path.{refl}
use Rattle.whole.specs.Floor.{floor_div}
use Rattle.table.proofs.Computing.{computing}
use Rattle.track.specs.Track.{lay_of, feet, grade_feet, curvature_feet, grade_under, curvature_under}
use Rattle.track.specs.Totals.{all_feet, grade_total, curvature_total, holding_to, grade_to}
use Rattle.track.specs.Figures.{Figures}

pub figures : Figures
unfolding computing floor_div lay_of feet grade_feet curvature_feet grade_under curvature_under all_feet grade_total curvature_total holding_to grade_to
figures = record {
  dip_curvature = refl;
  laid_grade = refl;
  laid_curvature = refl;
  one_grade = refl;
  one_curvature = refl;
  two_grade = refl;
  two_curvature = refl;
  three_grade = refl;
  three_curvature = refl;
  before_grade = refl;
  long_grade = refl;
  beyond_grade = refl;
  no_length_grade = refl;
  no_length_curvature = refl;
  grade_total_0 = refl;
  grade_total_1 = refl;
  grade_total_2 = refl;
  grade_total_3 = refl;
  curvature_total_0 = refl;
  curvature_total_1 = refl;
  curvature_total_2 = refl;
  curvature_total_3 = refl;
  grade_to_5 = refl;
  grade_to_10 = refl;
  grade_to_15 = refl;
  grade_to_20 = refl;
  grade_to_30 = refl;
  grade_to_40 = refl;
  grade_to_55 = refl;
  grade_to_70 = refl;
  grade_to_170 = refl;
}
