-- "Sample, 20 bytes": the layout, the judgement of the readings, the reader and the writer. Definitions only.
use Rattle.std.specs.Prelude.{ℕ, ◌^◌, List, [], ◌∷◌, ◌++◌, Bool, true, false, not, ◌&&◌, ◌||◌, get_or, leb, eqb, Float}
use Rattle.std.specs.Float.{binary32}
use Rattle.std.specs.Float.Ieee.{of_bits, to_bits}
use Rattle.bits.specs.Bytes.{fields_in, bytes_from}
use Rattle.hundredths.specs.Reading.{hundredths_of, is_bad, most_speed, most_psi}
use Rattle.hundredths.specs.declared.Rounding.TheVariants.{Up, Down}
use Rattle.record.specs.Record.{wrong_length}
use Rattle.refusal.specs.Lowest.{Rule, lowest}
use Rattle.refusal.specs.Number.{told}
use Rattle.refusal.specs.Steps.{kept}
use Rattle.refusal.specs.Written.{no_room, written}
use Rattle.refusal.specs.declared.Refusal.{Refusal}
use Rattle.refusal.specs.declared.Refusal.TheVariants.{WrongLength, WrongMark, OutOfRange, BadReading, NoRoom}
use Rattle.refusal.specs.Verdict.{Verdict, Refused}
use Rattle.sample.specs.declared.Rear.{Rear}
use Rattle.sample.specs.declared.Rear.TheVariants.{Present, Lost}
use Rattle.sample.specs.declared.RawSample.{RawSample}
use Rattle.sample.specs.declared.RearPressure.{RearPressure}
use Rattle.sample.specs.declared.RearPressure.TheVariants as pressure
use Rattle.sample.specs.declared.Sample.{Sample}

-- ---- the record

-- 20 bytes
abbrev pub size : ℕ
size = 20

-- "mark 8 (0x53)"
abbrev pub mark : ℕ
mark = 0x53

-- mark, time in seconds, rear present, spare, head location
abbrev pub lead_widths : List ℕ
lead_widths = 8 ∷ 24 ∷ 1 ∷ 7 ∷ 24 ∷ []

-- "then speed in mph, front and rear brake pipe pressure in psi, each the 32 bits of an IEEE 754 binary32"
abbrev pub reading_widths : List ℕ
reading_widths = 32 ∷ 32 ∷ 32 ∷ []

abbrev pub widths : List ℕ
widths = lead_widths ++ reading_widths

-- the paper's number and values of a rear: 1, "rear present", and its reading, or 0
abbrev pub rear_told : Rear → ℕ × List Float
rear_told (Present x) = (1, x ∷ [])
rear_told Lost = (0, [])

-- "when lost, the bit is 0 and all 32 rear bits are zero"
abbrev pub present_bit : Rear → ℕ
present_bit r = (rear_told r).0

abbrev pub rear_bits : Rear → ℕ
rear_bits (Present x) = to_bits binary32 x
rear_bits Lost = 0

abbrev pub lead_of : ℕ → ℕ → ℕ → List ℕ
lead_of time present head = mark ∷ time ∷ present ∷ 0 ∷ head ∷ []

abbrev pub readings_of : RawSample → List ℕ
readings_of raw = to_bits binary32 raw.speed ∷ to_bits binary32 raw.front ∷ rear_bits raw.rear ∷ []

abbrev pub fields_of : RawSample → List ℕ
fields_of raw = lead_of raw.time (present_bit raw.rear) raw.head ++ readings_of raw

abbrev pub lost_in : List ℕ → Bool
lost_in fs = eqb (get_or fs 2 0) 0

-- "The rear reading is a value or it is lost"
abbrev pub rear_of : Bool → ℕ → Rear
rear_of true bits = Lost
rear_of false bits = Present (of_bits binary32 bits)

-- "The sample's reader keeps the float bits as received." Of a NaN, which is refused 8, it keeps that it is one.
abbrev pub of_fields : List ℕ → RawSample
of_fields fs = record {
  time = get_or fs 1 0;
  head = get_or fs 4 0;
  speed = of_bits binary32 (get_or fs 5 0);
  front = of_bits binary32 (get_or fs 6 0);
  rear = rear_of (lost_in fs) (get_or fs 7 0);
}

-- the raw sample that bytes stand for, and the bytes of a raw sample
unfoldable pub raw_in : List ℕ → RawSample
raw_in s = of_fields (fields_in widths s)

unfoldable pub bytes_of : RawSample → List ℕ
bytes_of raw = bytes_from size widths (fields_of raw)

-- ---- what is refused

-- 3: a wrong mark; a spare bit set, or rear lost with rear bits not zero
abbrev pub other_mark : List ℕ → Bool
other_mark fs = not (eqb (get_or fs 0 0) mark)

abbrev pub spare_set : List ℕ → Bool
spare_set fs = not (eqb (get_or fs 3 0) 0)

abbrev pub lost_not_zero : List ℕ → Bool
lost_not_zero fs = lost_in fs && not (eqb (get_or fs 7 0) 0)

unfoldable pub wrong_mark : List ℕ → Bool
wrong_mark fs = other_mark fs || spare_set fs || lost_not_zero fs

-- 4: a sample's time or head over 24 bits
unfoldable pub too_wide : RawSample → Bool
too_wide raw = leb (2 ^ 24) raw.time || leb (2 ^ 24) raw.head

-- 8: a present reading is NaN, infinite, below zero, speed above 100 or pressure above 160
abbrev pub bad_rear : Rear → Bool
bad_rear (Present x) = is_bad most_psi x
bad_rear Lost = false

unfoldable pub bad_reading : RawSample → Bool
bad_reading raw = is_bad most_speed raw.speed || is_bad most_psi raw.front || bad_rear raw.rear

-- ---- the layout alone

-- the raw sample of an answer that refuses: all zero, the rear lost
abbrev pub none : RawSample
none = of_fields []

-- the lowest refusal, or the raw sample
abbrev pub answer : Verdict → RawSample → Verdict × RawSample
answer v raw = (v, kept v raw none)

abbrev pub refused_with : Refusal → Verdict × RawSample
refused_with r = answer (Refused r) none

-- 2: a sample is not 20 bytes
abbrev pub layout_rules : List ℕ → List Rule
layout_rules s = (wrong_length size s, WrongLength) ∷ (wrong_mark (fields_in widths s), WrongMark) ∷ []

unfoldable pub lay_out : List ℕ → Verdict × RawSample
lay_out s = answer (lowest (layout_rules s)) (raw_in s)

-- the paper's number and values: of a raw sample, and of an answer that has one
abbrev pub raw_told : RawSample → ℕ × ℕ × Float × Float × (ℕ × List Float)
raw_told raw = (raw.time, raw.head, raw.speed, raw.front, rear_told raw.rear)

abbrev pub answer_told : Verdict × RawSample → ℕ × (ℕ × ℕ × Float × Float × (ℕ × List Float))
answer_told a = told (a.0, raw_told a.1)

-- ---- the judgement

-- "Speed becomes 100 times its exact value rounded up, pressure 100 times its exact value rounded down."
abbrev pub rear_in_hundredths : Rear → RearPressure
rear_in_hundredths (Present x) = pressure.Present (hundredths_of Down x)
rear_in_hundredths Lost = pressure.Lost

abbrev pub sample_of : RawSample → Sample
sample_of raw = record {
  time = raw.time;
  head = raw.head;
  speed = hundredths_of Up raw.speed;
  front = hundredths_of Down raw.front;
  rear = rear_in_hundredths raw.rear;
}

abbrev pub judge_rules : RawSample → List Rule
judge_rules raw = (bad_reading raw, BadReading) ∷ []

-- the sample of a judgement that refuses
abbrev pub no_sample : Sample
no_sample = record { time = 0; head = 0; speed = 0; front = 0; rear = pressure.Lost }

-- the lowest refusal, or the sample in hundredths
abbrev pub judgement : Verdict → Sample → Verdict × Sample
judgement v x = (v, kept v x no_sample)

abbrev pub bad_judged : Verdict × Sample
bad_judged = judgement (Refused BadReading) no_sample

unfoldable pub judge_sample : RawSample → Verdict × Sample
judge_sample raw = judgement (lowest (judge_rules raw)) (sample_of raw)

-- the paper's number and values: of a pressure, of a sample, and of a judgement
abbrev pub pressure_told : RearPressure → ℕ × List ℕ
pressure_told (pressure.Present n) = (1, n ∷ [])
pressure_told pressure.Lost = (0, [])

abbrev pub sample_told : Sample → ℕ × ℕ × ℕ × ℕ × (ℕ × List ℕ)
sample_told x = (x.time, x.head, x.speed, x.front, pressure_told x.rear)

abbrev pub judged_told : Verdict × Sample → ℕ × (ℕ × ℕ × ℕ × ℕ × (ℕ × List ℕ))
judged_told j = told (j.0, sample_told j.1)

-- ---- the reader: "The sample reader's numbers are 2, 3 and 8."

abbrev pub read_rules : List ℕ → List Rule
read_rules s = layout_rules s ++ judge_rules (raw_in s)

unfoldable pub read_sample : List ℕ → Verdict × RawSample
read_sample s = answer (lowest (read_rules s)) (raw_in s)

-- ---- the writer

-- "Writers refuse what the reader would, with its number, touching nothing, and never touch bytes past the record."
abbrev pub write_rules : RawSample → List ℕ → List Rule
write_rules raw out = (too_wide raw, OutOfRange) ∷ judge_rules raw ++ (no_room size out, NoRoom) ∷ []

unfoldable pub write_sample : RawSample → List ℕ → Verdict × List ℕ
write_sample raw out = written (lowest (write_rules raw out)) (bytes_of raw) out
