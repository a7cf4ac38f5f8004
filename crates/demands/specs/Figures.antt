-- "Figures to meet", all cases marked P as one table under a single statement. Its proof is `figures` of proofs/Figures.antt.
use Rattle.std.specs.Prelude.{◌≡◌, true, false, pos, negsuc, take}
use Rattle.refusal.specs.Verdict.{Accepted}
use Rattle.hundredths.specs.Reading.{Hundredths}
use Rattle.hundredths.specs.Figures.{pressure_at, speed_at}
use Rattle.consist.specs.Figures.{train}
use Rattle.decision.specs.declared.Decision.{Decision}
use Rattle.decision.specs.Decision.{size, read_decision}
use Rattle.brake.specs.Equalization.{equalization_service}
use Rattle.air.specs.Rules.{equalization_emergency, combined, fall_service}
use Rattle.track.specs.Track.{grade_under}
use Rattle.track.specs.Figures.{dip, crest, ridge}
use Rattle.step.specs.Curve.{cylinder_at, force_at, penalty_curve}
use Rattle.step.specs.Step.{loss, step_time}
use Rattle.judge.specs.Judge.{offset_for}
use Rattle.sampling.specs.Sample.{sample_call}
use Rattle.line.specs.Line.{decision_text}
use Rattle.feed.specs.Case.{second_line}
use Rattle.demands.specs.Case.{standing, sample, profile, targets, out}

-- `train` is the train of the case: 10 cars, 40 axles, 1,000 tons, 600 ft, 200,000 lb, 30,000 ms, recharge 50, set 9,000, offset 500.
-- `standing` is its session after the first sample. `negsuc n` is -(n + 1).

-- `1 0 1 1 5032`: time, state, penalty, cause, stopping location
abbrev pub second : Decision
second = record { emergency = false; time = 1; state = 0; penalty = true; cause = 1; stop = 5032 }

pub record Figures : Type 0 where
  -- "Equalization, A 9,000, B 0: 6,428."
  pub equalization : equalization_service 9000 0 ≡ 6428
  -- "Emergency, A 7,000, B 5,000, nominal 9,000: 7,714, then A 8,166."
  pub emergency : equalization_emergency 7000 5000 9000 ≡ 7714
  pub then_a : combined 7000 9000 ≡ 8166
  -- "Set 9,000, time 30,000: fall 85."
  pub fall : fall_service train ≡ 85
  -- "That train, A 9,000, B 0, t 1,090: p 232; rated 200,000: F 7,250."
  pub cylinder : cylinder_at (penalty_curve train 9000 0) 1090 ≡ 232
  pub force : force_at train.rated (penalty_curve train 9000 0) 1090 ≡ 7250
  -- "51 ft at 50 and 49 ft at -53, length 100", by document 02's R-11 in ten-thousandths: G -47, exactly
  pub grade : grade_under dip 100 100 ≡ negsuc 46
  -- where it is rounded: 100 ft at 1 and 101 ft at -1, length 201: G -1; 2 ft at 1 and 1 ft at -3, length 3: G -34
  pub grade_crest : grade_under crest 201 201 ≡ negsuc 0
  pub grade_ridge : grade_under ridge 3 3 ≡ negsuc 33
  -- "W 1,000, N 10, n 40, s 1,000, q 1,000,000, F and C 0: level, loses 3,760"; G -10,000, gains 44,141; G -100, loses 3,281
  pub loses : loss train 0 1000 1000000 (pos 0) 0 ≡ pos 3760
  pub gains : loss train 0 1000 1000000 (negsuc 9999) 0 ≡ negsuc 44140
  pub slight : loss train 0 1000 1000000 (negsuc 99) 0 ≡ pos 3281
  -- "Step time: s 1, 1,090,909; s 10,000, 109."
  pub long_step : step_time 1 ≡ 1090909
  pub short_step : step_time 10000 ≡ 109
  -- "Offset 500, 40 to 20 mph: 375; 30 to 20: 278."
  pub offset_40 : offset_for 500 4000 2000 ≡ 375
  pub offset_30 : offset_for 500 3000 2000 ≡ 278
  -- "Bits 3F333333: pressure 69, speed 70."
  pub pressure : pressure_at 0x3f33_3333 ≡ Hundredths 69
  pub speed : speed_at 0x3f33_3333 ≡ Hundredths 70
  -- "P for the second line": what is decided on the sample 1, 5,000, 1.0, and its text
  pub second_line_lem : read_decision (take size (sample_call standing (sample 1 63 128) profile targets out).1) ≡ (Accepted, second)
  pub second_text : decision_text second ≡ second_line
