-- The table of figures, computed. Assumes nothing.
use mathlib.Core.Path.{refl}
use Rattle.hundredths.specs.Reading.{speed_of, pressure_of}
use Rattle.sampling.proofs.Computing.{computing}
use Rattle.line.specs.Line.{last_digits, decimal, decision_text}
use Rattle.demands.specs.Figures.{Figures}

pub figures : Figures
unfolding computing speed_of pressure_of last_digits decimal decision_text
figures = record {
  equalization = refl;
  emergency = refl;
  then_a = refl;
  fall = refl;
  cylinder = refl;
  force = refl;
  grade = refl;
  grade_crest = refl;
  grade_ridge = refl;
  loses = refl;
  gains = refl;
  slight = refl;
  long_step = refl;
  short_step = refl;
  offset_40 = refl;
  offset_30 = refl;
  pressure = refl;
  speed = refl;
  second_line_lem = refl;
  second_text = refl;
}
