-- Where a service application ends. Definitions only.
use Rattle.std.specs.Prelude.{ℕ, ◌+◌, ◌*◌, ◌/◌}

-- "equalization = (5A + 2B) / 7", "down": a quotient of natural numbers is
abbrev pub equalization_service : ℕ → ℕ → ℕ
equalization_service a b = (5 * a + 2 * b) / 7
