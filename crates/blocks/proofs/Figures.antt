-- The blocks' figures, computed. Assumes nothing.
use mathlib.Core.Path.{refl}
use Rattle.blocks.specs.Figures.{Figures}
use Rattle.blocks.proofs.Computing.{computing}

pub figures : Figures
unfolding computing
figures = record {
  bytes = refl;
  back = refl;
  accepted = refl;
  a_foot_more = refl;
  a_foot_less = refl;
  a_ton_more = refl;
  a_ton_less = refl;
  none = refl;
  a_ton = refl;
  no_weight = refl;
  no_length = refl;
  spare_bit = refl;
  byte_more = refl;
  byte_less = refl;
  sixty_four = refl;
  sixty_five = refl;
}
