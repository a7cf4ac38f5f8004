-- What a table holds. Definitions only.
use Rattle.std.specs.Prelude.{◌≡◌, ℕ, ◌<◌, List}
use Rattle.refusal.specs.Verdict.{Accepted}
use Rattle.table.specs.Table.{Table, record_at, judge}

-- s is accepted, with n records, and these are they
pub record Holds {A : Type 0} (t : Table A) (s : List ℕ) (n : ℕ) (f : ℕ → A) : Type 0 where
  pub judged : judge t s ≡ (Accepted, n)
  pub records : (k : ℕ) → k < n → record_at t s k ≡ f k
