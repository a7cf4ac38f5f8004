-- The locations that more than one record knows. Definitions only.
use Rattle.std.specs.Prelude.{ℕ}

-- "at most 4,000,000"
abbrev pub farthest : ℕ
farthest = 4000000

-- "16,777,215 for no stop"
abbrev pub no_stop : ℕ
no_stop = 16777215
