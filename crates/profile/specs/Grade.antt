-- "grade 11 two's complement": the grade that eleven bits are, and the eleven bits of a grade. Definitions only.
use Rattle.std.specs.Prelude.{ℕ, suc, ◌-◌, ◌^◌, cond, ltb, ℤ, pos, negsuc}
use Rattle.std.proofs.Math.IntN.{sub_ℕ}

-- the upper half of the numbers of eleven bits stand for what is 2 ^ 11 less
abbrev pub grade_of : ℕ → ℤ
grade_of n = cond (ltb n (2 ^ 10)) (pos n) (sub_ℕ n (2 ^ 11))

-- `negsuc n` is -(n + 1)
abbrev pub grade_bits : ℤ → ℕ
grade_bits (pos n) = n
grade_bits (negsuc n) = 2 ^ 11 - suc n
