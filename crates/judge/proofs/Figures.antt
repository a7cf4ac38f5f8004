-- The judgement's figures, computed. Assumes nothing.
use mathlib.Core.Path.{refl}
use Rattle.whole.specs.Ceiling.{ceil_div}
use Rattle.judge.specs.Judge.{is_judged, offset_for, is_called, first_from, cause_of, is_emergency_called, emergency_cause_of}
use Rattle.judge.specs.Figures.{Figures}

pub figures : Figures
unfolding ceil_div is_judged offset_for is_called first_from cause_of is_emergency_called emergency_cause_of
figures = record {
  behind = refl;
  nearest = refl;
  farthest = refl;
  beyond = refl;
  short_of_it = refl;
  equal = refl;
  no_location = refl;
  first = refl;
  counted = refl;
  none = refl;
  emergency_short = refl;
  emergency_at = refl;
  emergency_past = refl;
  emergency_beyond = refl;
  emergency_on = refl;
}
