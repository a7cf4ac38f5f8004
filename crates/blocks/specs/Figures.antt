-- Figures of the blocks, as one statement. Its proof is `figures` of proofs/Figures.antt.
use Rattle.std.specs.Prelude.{◌≡◌, true, false, List, [], ◌∷◌, ◌++◌, ℕ, zero, suc}
use Rattle.blocks.specs.declared.Blocks.{Blocks}
use Rattle.blocks.specs.Blocks.{lay_of, is_broken, bytes_of, of_lists}

-- document 004's train, 1,815 ft and 3,075 t
abbrev pub train : Blocks
train = of_lists (75 ∷ 1080 ∷ 660 ∷ []) (225 ∷ 2520 ∷ 330 ∷ [])

-- a locomotive and a block of its weight behind it, by the bytes of the second
abbrev pub behind : List ℕ → List ℕ
behind s = 0 ∷ 150 ∷ 3 ∷ 132 ∷ s

-- n blocks of a foot and a ton
abbrev pub ones : ℕ → List ℕ
ones zero = []
ones (suc n) = 0 ∷ 2 ∷ 0 ∷ 4 ∷ ones n

pub record Figures : Type 0 where
  pub bytes : bytes_of train ≡ 0 ∷ 150 ∷ 3 ∷ 132 ∷ 8 ∷ 112 ∷ 39 ∷ 96 ∷ 5 ∷ 40 ∷ 5 ∷ 40 ∷ []
  pub back : lay_of (bytes_of train) ≡ train
  pub accepted : is_broken (bytes_of train) 1815 3075 ≡ false
  -- sums that are off by one
  pub a_foot_more : is_broken (bytes_of train) 1814 3075 ≡ true
  pub a_foot_less : is_broken (bytes_of train) 1816 3075 ≡ true
  pub a_ton_more : is_broken (bytes_of train) 1815 3074 ≡ true
  pub a_ton_less : is_broken (bytes_of train) 1815 3076 ≡ true
  -- no block at all is right, whatever the train
  pub none : is_broken [] 1815 3075 ≡ false
  -- a ton, a block without weight, one without length, one with a spare bit
  pub a_ton : is_broken (behind (0 ∷ 2 ∷ 0 ∷ 4 ∷ [])) 76 226 ≡ false
  pub no_weight : is_broken (behind (0 ∷ 2 ∷ 0 ∷ 0 ∷ [])) 76 225 ≡ true
  pub no_length : is_broken (behind (0 ∷ 0 ∷ 0 ∷ 4 ∷ [])) 75 226 ≡ true
  pub spare_bit : is_broken (behind (0 ∷ 2 ∷ 0 ∷ 5 ∷ [])) 76 226 ≡ true
  -- a byte too many or too few
  pub byte_more : is_broken (bytes_of train ++ 0 ∷ []) 1815 3075 ≡ true
  pub byte_less : is_broken (behind (0 ∷ 2 ∷ 0 ∷ [])) 75 225 ≡ true
  pub sixty_four : is_broken (ones 64) 64 64 ≡ false
  pub sixty_five : is_broken (ones 65) 65 65 ≡ true
