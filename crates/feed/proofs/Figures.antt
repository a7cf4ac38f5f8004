-- The figures of the lines and of the counts, computed. Assumes nothing.
use mathlib.Core.Path.{refl}
use Rattle.table.specs.Table.{counted}
use Rattle.opening.specs.Opening.{blocks_ahead, profile_ahead, targets_ahead}
use Rattle.line.specs.Line.{last_digits, decimal, decision_text, refusal_text}
use Rattle.feed.specs.Figures.{Figures}

pub figures : Figures
unfolding last_digits decimal decision_text refusal_text counted blocks_ahead profile_ahead targets_ahead
figures = record {
  first_line_lem = refl;
  second_record = refl;
  one_digit = refl;
  two_digits = refl;
  last_number = refl;
  largest = refl;
  most_records = refl;
  too_many = refl;
  too_few = refl;
  cut_short = refl;
  no_blocks = refl;
  most_blocks = refl;
  more_blocks = refl;
  missing_count = refl;
  no_targets = refl;
  eight = refl;
  nine = refl;
  missing = refl;
}
