-- What the steps on the way find. Definitions only.
use Rattle.std.specs.Prelude.{ℕ, List, [], ◌∷◌, Bool, ◌&&◌, get_or, eqb}
use Rattle.bits.specs.Fields.{split, join}
use Rattle.table.specs.Table.{every}
use Rattle.blocks.specs.declared.Blocks.{Blocks}
use Rattle.blocks.specs.Blocks.{most, widths}

-- the blocks whose arrays these are
abbrev pub blocks_of : ℕ → (lengths weights : List ℕ) → Blocks
blocks_of count lengths weights = record { count = count; lengths = lengths; weights = weights }

-- nothing stands in place k, and in any place
abbrev pub empty_at : (lengths weights : List ℕ) → ℕ → Bool
empty_at lengths weights k = eqb (get_or lengths k 0) 0 && eqb (get_or weights k 0) 0

unfoldable pub empty : (lengths weights : List ℕ) → Bool
empty lengths weights = every most (empty_at lengths weights)

-- a block's fields in the number that its bytes are, and the number of a block
abbrev pub field_in : ℕ → ℕ → ℕ
field_in x k = get_or (split widths x) k 0

abbrev pub word_of : ℕ → ℕ → ℕ
word_of length weight = join widths (length ∷ weight ∷ 0 ∷ [])
