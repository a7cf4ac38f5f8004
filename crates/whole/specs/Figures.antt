-- Worked divisions and roots, as one statement. Its proof is `figures` of proofs/Figures.antt.
use Rattle.std.specs.Prelude.{◌≡◌, ◌*◌, ◌-◌, ◌^◌, pos, negsuc}
use Rattle.whole.specs.Floor.{floor_div}
use Rattle.whole.specs.Ceiling.{ceil_div}
use Rattle.whole.specs.Root.{root_of}

pub record Figures : Type 0 where
  -- -1 / 100 and -100 / 100, down
  pub below_zero : floor_div (negsuc 0) (pos 100) ≡ negsuc 0
  pub whole_below : floor_div (negsuc 99) (pos 100) ≡ negsuc 0
  -- 7 / 2 and 8 / 2, up
  pub half_up : ceil_div 7 2 ≡ 4
  pub whole_up : ceil_div 8 2 ≡ 4
  pub root_exact : root_of 10000 ≡ 100
  pub root_under : root_of 9999 ≡ 99
  -- one digit of the root, and two
  pub root_0 : root_of 0 ≡ 0
  pub root_1 : root_of 1 ≡ 1
  pub root_3 : root_of 3 ≡ 1
  pub root_4 : root_of 4 ≡ 2
  -- the last number of half a word, and the next
  pub half_word : root_of (2 ^ 32 - 1) ≡ 2 ^ 16 - 1
  pub past_half : root_of (2 ^ 32) ≡ 2 ^ 16
  -- the greatest square of a word, the number before it, and the last number of a word
  pub last_square : root_of ((2 ^ 32 - 1) * (2 ^ 32 - 1)) ≡ 2 ^ 32 - 1
  pub under_last_square : root_of ((2 ^ 32 - 1) * (2 ^ 32 - 1) - 1) ≡ 2 ^ 32 - 2
  pub word : root_of (2 ^ 64 - 1) ≡ 2 ^ 32 - 1
