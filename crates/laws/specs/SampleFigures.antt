-- Figures of the sample, as one statement. Its proof is `figures` of proofs/SampleFigures.antt.
use Rattle.std.specs.Prelude.{◌≡◌, ℕ, List, [], ◌∷◌, ◌++◌, Float}
use Rattle.std.specs.Float.{nan, binary32}
use Rattle.std.specs.Float.Ieee.{of_bits}
use Rattle.bits.specs.Bytes.{bytes_from}
use Rattle.refusal.specs.declared.Refusal.TheVariants.{WrongLength, WrongMark, BadReading}
use Rattle.refusal.specs.Verdict.{Accepted}
use Rattle.sample.specs.declared.Rear.{Rear}
use Rattle.sample.specs.declared.Rear.TheVariants as raw
use Rattle.sample.specs.declared.RawSample.{RawSample}
use Rattle.sample.specs.declared.RearPressure.{RearPressure}
use Rattle.sample.specs.declared.RearPressure.TheVariants as pressure
use Rattle.sample.specs.declared.Sample.{Sample}
use Rattle.sample.specs.Sample.{size, widths, mark, bytes_of, answer, refused_with, judgement, lay_out, judge_sample, read_sample}

-- bit patterns: 1.0, 90.0, minus zero and a NaN
abbrev pub one : ℕ
one = 0x3f80_0000

abbrev pub ninety : ℕ
ninety = 0x42b4_0000

abbrev pub minus_zero : ℕ
minus_zero = 0x8000_0000

abbrev pub no_number : ℕ
no_number = 0x7fc0_0000

abbrev pub at : ℕ → Float
at bits = of_bits binary32 bits

-- the second sample of 01's case: time 1, head 5,000, front 90.0; its bytes with mark, rear bit, spare bits, speed and rear bits left open
abbrev pub bytes : ℕ → ℕ → ℕ → ℕ → ℕ → List ℕ
bytes m present spare speed rear = bytes_from size widths (m ∷ 1 ∷ present ∷ spare ∷ 5000 ∷ speed ∷ ninety ∷ rear ∷ [])

abbrev pub received : Float → Rear → RawSample
received speed rear = record { time = 1; head = 5000; speed = speed; front = at ninety; rear = rear }

-- the same at 1.0 mph, in hundredths
abbrev pub in_hundredths : RearPressure → Sample
in_hundredths rear = record { time = 1; head = 5000; speed = 100; front = 9000; rear = rear }

pub record Figures : Type 0 where
  pub written : bytes_of (received (at one) (raw.Present (at ninety))) ≡ 83 ∷ 0 ∷ 0 ∷ 1 ∷ 128 ∷ 0 ∷ 19 ∷ 136 ∷ 63 ∷ 128 ∷ 0 ∷ 0 ∷ 66 ∷ 180 ∷ 0 ∷ 0 ∷ 66 ∷ 180 ∷ 0 ∷ 0 ∷ []
  pub read : read_sample (bytes mark 1 0 one ninety) ≡ answer Accepted (received (at one) (raw.Present (at ninety)))
  pub judged : judge_sample (received (at one) (raw.Present (at ninety))) ≡ judgement Accepted (in_hundredths (pressure.Present 9000))
  -- a lost rear
  pub lost : read_sample (bytes mark 0 0 one 0) ≡ answer Accepted (received (at one) raw.Lost)
  pub lost_judged : judge_sample (received (at one) raw.Lost) ≡ judgement Accepted (in_hundredths pressure.Lost)
  pub lost_not_zero : read_sample (bytes mark 0 0 one minus_zero) ≡ refused_with WrongMark
  -- "Minus zero is zero", and comes back as minus zero
  pub minus_zero_lem : read_sample (bytes mark 1 0 one minus_zero) ≡ answer Accepted (received (at one) (raw.Present (at minus_zero)))
  pub minus_zero_judged : judge_sample (received (at one) (raw.Present (at minus_zero))) ≡ judgement Accepted (in_hundredths (pressure.Present 0))
  pub minus_zero_written : bytes_of (received (at one) (raw.Present (at minus_zero))) ≡ bytes mark 1 0 one minus_zero
  -- a NaN is laid out, and refused by the judgement
  pub nan_laid_out : lay_out (bytes mark 1 0 no_number ninety) ≡ answer Accepted (received nan (raw.Present (at ninety)))
  pub nan_read : read_sample (bytes mark 1 0 no_number ninety) ≡ refused_with BadReading
  pub a_byte_more : read_sample (bytes mark 1 0 one ninety ++ 0 ∷ []) ≡ refused_with WrongLength
  pub other_mark : read_sample (bytes 0x44 1 0 one ninety) ≡ refused_with WrongMark
  pub spare_set : read_sample (bytes mark 1 1 one ninety) ≡ refused_with WrongMark
