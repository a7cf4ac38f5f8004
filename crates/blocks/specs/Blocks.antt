-- Document 02's R-1: "A consist may be followed by 1 to 64 blocks, each with length and weight of at least 1, head end first, summing to the consist's
-- length and weight." "Each block is two bit fields, length 15 and weight 15, with two spare zero bits." Definitions only.
use Rattle.std.specs.Prelude.{ℕ, zero, suc, ◌+◌, ◌/◌, ◌%◌, min, List, [], ◌∷◌, ◌++◌, Bool, not, ◌&&◌, ◌||◌, cond, length, get_or, replicate, leb, ltb, eqb}
use Rattle.bits.specs.Bytes.{fields_in, bytes_from}
use Rattle.bits.specs.Tables.{up_to}
use Rattle.table.specs.Table.{every, part_at}
use Rattle.blocks.specs.declared.Blocks.{Blocks}

-- ---- the layout

-- 4 bytes a block, at most 64 blocks
abbrev pub size : ℕ
size = 4

abbrev pub most : ℕ
most = 64

-- length 15, weight 15, spare 2
abbrev pub widths : List ℕ
widths = 15 ∷ 15 ∷ 2 ∷ []

-- ---- blocks as a value

-- no block at all
unfoldable pub none : Blocks
none = record { count = 0; lengths = replicate most 0; weights = replicate most 0 }

abbrev pub length_of : Blocks → ℕ → ℕ
length_of b k = get_or b.lengths k 0

abbrev pub weight_of : Blocks → ℕ → ℕ
weight_of b k = get_or b.weights k 0

-- the sum of the first n
unfoldable pub sum_to : (ℕ → ℕ) → ℕ → ℕ
sum_to f zero = 0
sum_to f (suc n) = sum_to f n + f n

-- 64 places of each, as its arrays have: a list might have more or fewer
unfoldable pub placed : Blocks → Bool
placed b = eqb (length b.lengths) most && eqb (length b.weights) most

-- "each with length and weight of at least 1"; past the last block nothing stands
unfoldable pub place_right : Blocks → ℕ → Bool
place_right b k =
    cond (ltb k b.count)
    (leb 1 (length_of b k) && leb 1 (weight_of b k))
    (eqb (length_of b k) 0 && eqb (weight_of b k) 0)

unfoldable pub each_right : Blocks → Bool
each_right b = every most (place_right b)

-- "summing to the consist's length and weight"
unfoldable pub sums_right : Blocks → (length weight : ℕ) → Bool
sums_right b l w = eqb (sum_to (length_of b) b.count) l && eqb (sum_to (weight_of b) b.count) w

-- of a consist with this length and weight; none at all is right
unfoldable pub is_sound : Blocks → (length weight : ℕ) → Bool
is_sound b l w = placed b && leb b.count most && each_right b && (eqb b.count 0 || sums_right b l w)

-- ---- as bytes

abbrev pub count : List ℕ → ℕ
count s = length s / size

-- the fields of block k; past the last whole block, zeros
abbrev pub fields_at : List ℕ → ℕ → List ℕ
fields_at s k = fields_in widths (part_at size s k)

-- the blocks that bytes are, of no more than there may be
unfoldable pub lay_of : List ℕ → Blocks
lay_of s = record {
  count = min (count s) most;
  lengths = up_to most (λ k. get_or (fields_at s k) 0 0);
  weights = up_to most (λ k. get_or (fields_at s k) 1 0);
}

-- "two spare zero bits"
unfoldable pub spare_zero : List ℕ → ℕ → Bool
spare_zero s k = eqb (get_or (fields_at s k) 2 0) 0

-- a whole number of blocks, no more than there may be, and no spare bit
unfoldable pub is_laid_out : List ℕ → Bool
is_laid_out s = eqb (length s % size) 0 && leb (count s) most && every (count s) (spare_zero s)

-- 13: "blocks that break these rules, their byte count included"
unfoldable pub is_broken : List ℕ → (length weight : ℕ) → Bool
is_broken s l w = not (is_laid_out s && is_sound (lay_of s) l w)

-- the fields of block k of a value
abbrev pub fields_of : Blocks → ℕ → List ℕ
fields_of b k = length_of b k ∷ weight_of b k ∷ 0 ∷ []

-- the bytes of the first n blocks, and of all
unfoldable pub bytes_to : Blocks → ℕ → List ℕ
bytes_to b zero = []
bytes_to b (suc n) = bytes_to b n ++ bytes_from size widths (fields_of b n)

unfoldable pub bytes_of : Blocks → List ℕ
bytes_of b = bytes_to b b.count

-- ---- of a list of lengths and one of weights

-- a block for each length, of no more than there may be; where a weight is missing, none
unfoldable pub of_lists : (lengths weights : List ℕ) → Blocks
of_lists lengths weights = record {
  count = min (length lengths) most;
  lengths = up_to most (λ k. get_or lengths k 0);
  weights = up_to most (λ k. get_or weights k 0);
}
