-- The profile's figures, computed. Assumes nothing.
use mathlib.Core.Path.{refl}
use Rattle.table.proofs.Computing.{computing}
use Rattle.profile.specs.Profile.{in_range, ends}
use Rattle.laws.specs.ProfileFigures.{Figures}

pub figures : Figures
unfolding computing in_range ends
figures = record {
  minus_one = refl;
  steepest = refl;
  downhill = refl;
  bytes = refl;
  accepted = refl;
  one_record = refl;
  equal_starts = refl;
  too_steep = refl;
  graded_end = refl;
  spare_bit = refl;
  farthest = refl;
  too_far = refl;
  no_bytes = refl;
  thirteen_bytes = refl;
}
