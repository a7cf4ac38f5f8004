-- What ties a record's constants in the code to its table. Definitions only.
use Rattle.std.specs.Prelude.{◌≡◌, ℕ, ◌*◌, ◌^◌, ◌<◌}
use Rattle.table.specs.Table.{Table}

-- the code's constants are the table's
pub record Sizes {A : Type 0} (t : Table A) (size fewest most : ℕ) : Type 0 where
  pub is : t.size ≡ size
  pub least : t.fewest ≡ fewest
  pub greatest : t.most ≡ most
  -- a record has bytes, and those of a whole table are few
  pub some : 0 < size
  pub small : size * most < 2 ^ 32
