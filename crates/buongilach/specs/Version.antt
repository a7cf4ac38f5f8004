-- The version that the library tells, as one number. Definitions only.
use Rattle.std.specs.Prelude.{ℕ, ◌+◌, ◌*◌}

abbrev pub major : ℕ
major = 8

abbrev pub minor : ℕ
minor = 0

abbrev pub patch : ℕ
patch = 0

-- three digits each for minor and patch, so that a later version is a greater number
abbrev pub version : ℕ
version = major * 1000000 + minor * 1000 + patch
