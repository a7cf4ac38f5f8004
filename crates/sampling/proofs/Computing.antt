-- A name for every definition that a session's calls compute through: a proof that says `unfolding computing` unfolds them all. Assumes nothing.
use lib.Ieee.{of_bits, is_nan}
use Rattle.refusal.specs.Lowest.{lowest}
use Rattle.refusal.specs.Written.{no_room}
use Rattle.record.specs.Record.{wrong_length}
use Rattle.whole.specs.Floor.{floor_div}
use Rattle.whole.specs.Ceiling.{ceil_div}
use Rattle.whole.specs.Root.{digits, root_of}
use Rattle.hundredths.specs.Reading as reading
use Rattle.table.proofs.Computing as table
use Rattle.blocks.proofs.Computing as blocks
use Rattle.consist.specs.Consist as consist
use Rattle.profile.specs.Profile as profile
use Rattle.targets.specs.Targets as targets
use Rattle.sample.specs.Sample as sample
use Rattle.decision.specs.Decision as decision
use Rattle.brake.specs.Brake.{is_at_opening}
use Rattle.reading.specs.Readings as readings
use Rattle.air.specs.Rules as air
use Rattle.air.specs.Emergency.{emergency_air}
use Rattle.update.specs.Rules as rules
use Rattle.brake.specs.Sound as sound
use Rattle.trend.specs.Sound as trend
use Rattle.trend.specs.Line as line
use Rattle.trend.specs.Result as result
use Rattle.learn.specs.Stage as stage
use Rattle.learn.specs.Sound as learner
use Rattle.learn.specs.Kept as learning
use Rattle.track.specs.Track as track
use Rattle.shares.specs.Shares as shares
use Rattle.step.specs.Curve as curve
use Rattle.step.specs.Step as step
use Rattle.walk.specs.Walk as walk
use Rattle.judge.specs.Judge as judge
use Rattle.judge.specs.Approach as approach
use Rattle.judge.specs.Emergency as emergency
use Rattle.admission.specs.Table.{wrong_time, not_covered}
use Rattle.session.specs.Session.{is_open}
use Rattle.session.specs.Open.{open_of}
use Rattle.sampling.specs.Sample.{cause_after, emergency_after, sample_call}

unfoldable pub computing : Unit {0}
unfolding of_bits lowest no_room floor_div ceil_div digits root_of is_open open_of wrong_time not_covered approach.prediction_of approach.call_of cause_after emergency_after sample_call reading.hundredths_of reading.is_bad blocks.computing consist.consist_in consist.in_range consist.too_light consist.broken_behind consist.sound_blocks consist.is_sound consist.too_short consist.read_consist table.computing profile.in_range profile.ends targets.in_range sample.raw_in sample.lay_out sample.judge_sample wrong_length sample.wrong_mark sample.bad_reading decision.decision_in decision.bytes_of decision.both_bytes decision.wrong_mark decision.out_of_range decision.read_decision readings.elapsed_of readings.rate_of readings.heard_after readings.is_kept readings.lost_rear readings.rear_taken readings.nominal_of readings.reading_of readings.application readings.release readings.emergency air.start_emergency air.start_service air.start_applying air.start_charging air.fall_in_service air.fall_in_emergency emergency_air rules.in_charged rules.recharged rules.in_charging rules.fall_or_hold rules.in_applying_service rules.in_holding_service rules.in_applying_emergency rules.in_holding_emergency rules.update_of sound.is_sound is_at_opening trend.is_sound line.slope_top line.intercept_top line.bottom line.levels_off result.dividend result.divisor result.time_of result.result_of stage.is_at_opening learner.is_sound learning.added_to learning.further_to learning.first_to learning.heard_in learning.timed_to learning.started_by learning.in_stage learning.taught_of track.lay_of track.feet track.grade_feet track.curvature_feet track.grade_under track.curvature_under shares.grade_share shares.curvature_share shares.grade_shares shares.ground_under curve.drop_at curve.cylinder_at curve.force_at curve.penalty_curve curve.emergency_curve step.opposing step.loss step.step_time step.step_of walk.stays walk.walk_to walk.arrival_for walk.predict_of judge.is_judged judge.offset_for judge.is_called judge.first_from judge.cause_of judge.standing judge.is_emergency_called judge.emergency_cause_of emergency.emergency_arrival emergency.emergency_call_of is_nan
computing = tt
