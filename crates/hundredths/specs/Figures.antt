-- Figures to meet, each by a reading's bit pattern: one statement. Assumes nothing.
use Rattle.std.specs.Prelude.{◌≡◌, ℕ}
use Rattle.std.specs.Float.{binary32}
use Rattle.std.specs.Float.Ieee.{of_bits}
use Rattle.hundredths.specs.Reading.{Reading, Hundredths, Refused, speed_of, pressure_of}

abbrev pub speed_at : ℕ → Reading
speed_at bits = speed_of (of_bits binary32 bits)

abbrev pub pressure_at : ℕ → Reading
pressure_at bits = pressure_of (of_bits binary32 bits)

pub record Figures : Type 0 where
  -- "100.0 mph gives exactly 10,000; the next binary32 up is refused 8."
  pub speed_100 : speed_at 0x42c8_0000 ≡ Hundredths 10000
  pub speed_past_100 : speed_at 0x42c8_0001 ≡ Refused
  -- 160.0 psi and the next up
  pub pressure_160 : pressure_at 0x4320_0000 ≡ Hundredths 16000
  pub pressure_past_160 : pressure_at 0x4320_0001 ≡ Refused
  -- "Minus zero is zero."
  pub speed_minus_zero : speed_at 0x8000_0000 ≡ Hundredths 0
  pub pressure_minus_zero : pressure_at 0x8000_0000 ≡ Hundredths 0
  -- the smallest above zero
  pub speed_least : speed_at 0x0000_0001 ≡ Hundredths 1
  pub pressure_least : pressure_at 0x0000_0001 ≡ Hundredths 0
  -- the largest below zero
  pub speed_below : speed_at 0x8000_0001 ≡ Refused
  pub pressure_below : pressure_at 0x8000_0001 ≡ Refused
  -- a NaN and the two infinities
  pub speed_nan : speed_at 0x7fc0_0000 ≡ Refused
  pub pressure_nan : pressure_at 0x7fc0_0000 ≡ Refused
  pub speed_infinite : speed_at 0x7f80_0000 ≡ Refused
  pub pressure_infinite : pressure_at 0x7f80_0000 ≡ Refused
  pub speed_minus_infinite : speed_at 0xff80_0000 ≡ Refused
  pub pressure_minus_infinite : pressure_at 0xff80_0000 ≡ Refused
