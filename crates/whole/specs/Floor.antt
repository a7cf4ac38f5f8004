-- Division down. That `floor_div` is the floor, and nothing else is, are `floor_is` and `floor_unique` of proofs/Floors.antt. Assumes nothing.
use Rattle.std.specs.Prelude.{ℕ, zero, suc, ◌/◌, ℤ, pos, negsuc, ◌+ℤ◌, ◌*ℤ◌, ◌≤ℤ◌, ◌<ℤ◌}

-- f is z / k, "down": "to the next lower whole number, for negatives too"
pub record IsFloor (z : ℤ) (k : ℕ) (f : ℤ) : Type 0 where
  pub low : (pos k *ℤ f) ≤ℤ z
  pub high : z <ℤ (pos k *ℤ (f +ℤ pos 1))

-- z / k down; 0 where k is not above 0. The number -1 is `negsuc 0`, -2 is `negsuc 1`.
unfoldable pub floor_div : ℤ → ℤ → ℤ
floor_div (pos a) (pos (suc k)) = pos (a / suc k)
floor_div (negsuc a) (pos (suc k)) = negsuc (a / suc k)
floor_div z (pos zero) = pos 0
floor_div z (negsuc k) = pos 0

-- z, with whatever is below zero counted as zero
abbrev pub cut : ℤ → ℕ
cut (pos n) = n
cut (negsuc n) = 0
