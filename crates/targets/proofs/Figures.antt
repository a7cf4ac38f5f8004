-- The targets' figures, computed. Assumes nothing.
use mathlib.Core.Path.{refl}
use Rattle.table.proofs.Computing.{computing}
use Rattle.targets.specs.Targets.{in_range}
use Rattle.targets.specs.Figures.{Figures}

pub figures : Figures
unfolding computing in_range
figures = record {
  none = refl;
  bytes = refl;
  accepted = refl;
  fastest = refl;
  too_fast = refl;
  farthest = refl;
  too_far = refl;
  rising = refl;
  equal = refl;
  eight = refl;
  nine = refl;
  six_bytes = refl;
}
