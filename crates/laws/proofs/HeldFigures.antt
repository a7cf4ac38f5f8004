-- The figures of the session's record, computed. Assumes nothing.
use mathlib.Core.Path.{refl}
use Rattle.bits.specs.Places.{lies, field_at}
use Rattle.refusal.specs.Lowest.{lowest}
use Rattle.record.specs.Record.{wrong_length}
use Rattle.seal.specs.Seal.{check_word, sealed, is_sealed}
use Rattle.blocks.proofs.Computing.{computing}
use Rattle.consist.specs.Consist as consist
use Rattle.brake.specs.Brake.{is_at_opening}
use Rattle.brake.specs.Sound as brake
use Rattle.trend.specs.Sound as trend
use Rattle.learn.specs.Stage as stage
use Rattle.learn.specs.Sound as learner
use Rattle.session.specs.Session.{is_open}
use Rattle.held.specs.Held.{count_in, wrong_mark, front_of, bytes_of, session_in, no_front, no_record, is_broken, no_session, read_session}
use Rattle.laws.specs.HeldFigures.{Figures}

pub figures : Figures
unfolding lies field_at wrong_length check_word sealed is_sealed computing count_in wrong_mark front_of bytes_of session_in no_front no_record is_broken no_session read_session lowest is_open is_at_opening consist.consist_in consist.front_of consist.in_range consist.too_light consist.sound_blocks consist.is_sound brake.is_sound trend.is_sound stage.is_at_opening learner.is_sound
figures = record {
  written = refl;
  read = refl;
  both_written = refl;
  both_read = refl;
  penalty_alone = refl;
  emergency_alone = refl;
  emergency_nine = refl;
  choice_written = refl;
  choice_read = refl;
  opened_by_choice = refl;
  heard_unsampled = refl;
  heard_late = refl;
  other_mark = refl;
  state_six = refl;
  state_eight = refl;
  state_most = refl;
  a_above_set = refl;
  a_below_set = refl;
  a_cause = refl;
  a_ton_less = refl;
  a_byte_less = refl;
  not_sealed = refl;
  learning_written = refl;
  learning_read = refl;
  sums_most = refl;
  a_257th = refl;
  times_more = refl;
  squares_more = refl;
  pressures_more = refl;
  products_more = refl;
  fresh_and_done = refl;
  fresh_and_fallen = refl;
  stage_five = refl;
  manifest_written = refl;
  manifest_read = refl;
  count_other = refl;
  count_0 = refl;
  none_sealed = refl;
  count_65 = refl;
  blocks_not_sealed = refl;
  spare_bit = refl;
  a_ton_off = refl;
}
