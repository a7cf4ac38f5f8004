-- Two float comparisons. Assumes nothing.
use Rattle.std.specs.Prelude.{Bool, ◌&&◌, Float}
use Rattle.std.specs.Float.{binary32}
use Rattle.std.specs.Float.Ieee.{of_bits, le}

-- from 0.0 to `most`, both ends among them; a NaN is in no range
abbrev pub in_range : Float → Float → Bool
in_range x most = le (of_bits binary32 0) x && le x most
