-- The case of document 01 as one feed, computed. Assumes nothing.
use mathlib.Core.Path.{refl}
use Rattle.sampling.proofs.Computing.{computing}
use Rattle.opening.specs.Opening.{blocks_ahead, profile_ahead, targets_ahead, taken}
use Rattle.line.specs.Line.{last_digits, decimal, decision_text, refusal_text}
use Rattle.feed.specs.Output.{lines_of, output_of}
use Rattle.feed.specs.Case.{Case}

pub computed : Case
unfolding computing blocks_ahead profile_ahead targets_ahead taken last_digits decimal decision_text refusal_text lines_of output_of
computed = record {
  whole_output = refl;
  by_old_choice = refl;
  short_sample = refl;
  goes_on = refl;
  no_samples = refl;
  no_consist = refl;
  one_record = refl;
  nine_targets = refl;
  level_blocks = refl;
  no_count = refl;
  too_many_blocks = refl;
  short_blocks = refl;
  wrong_sums = refl;
  too_light_first = refl;
}
