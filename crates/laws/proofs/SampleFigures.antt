-- The sample's figures, computed. Assumes nothing.
use mathlib.Core.Path.{refl}
use lib.Ieee.{is_nan, of_bits, to_bits}
use Rattle.whole.specs.Ceiling.{ceil_div}
use Rattle.hundredths.specs.Reading.{hundredths_of, is_bad}
use Rattle.refusal.specs.Lowest.{lowest}
use Rattle.record.specs.Record.{wrong_length}
use Rattle.sample.specs.Sample.{raw_in, bytes_of, wrong_mark, bad_reading, lay_out, judge_sample, read_sample}
use Rattle.laws.specs.SampleFigures.{Figures}

pub figures : Figures
unfolding raw_in bytes_of wrong_length wrong_mark bad_reading lay_out judge_sample read_sample lowest ceil_div hundredths_of is_bad to_bits of_bits is_nan
figures = record {
  written = refl;
  read = refl;
  judged = refl;
  lost = refl;
  lost_judged = refl;
  lost_not_zero = refl;
  minus_zero_lem = refl;
  minus_zero_judged = refl;
  minus_zero_written = refl;
  nan_laid_out = refl;
  nan_read = refl;
  a_byte_more = refl;
  other_mark = refl;
  spare_set = refl;
}
