-- The check word of bytes, 32 bits: the sum of the bytes and the sum of their running sums, each modulo 2 ^ 16. Definitions only.
use Rattle.std.specs.Prelude.{ℕ, ◌+◌, ◌-◌, ◌*◌, ◌%◌, ◌^◌, List, [], ◌∷◌, ◌++◌, Bool, ◌&&◌, cond, eqb, leb, length, take, drop}
use Rattle.bits.specs.Fields.{split}
use Rattle.bits.specs.Bytes.{eights, num}

-- the bytes that a check word takes
abbrev pub size : ℕ
size = 4

abbrev pub sum : List ℕ → ℕ
sum [] = 0
sum (x ∷ s) = x + sum s

-- the running sums of bytes before which others come to a
abbrev pub running : ℕ → List ℕ → List ℕ
running a [] = []
running a (x ∷ s) = (a + x) ∷ running (a + x) s

unfoldable pub check_word : List ℕ → ℕ
check_word s = sum s % 2 ^ 16 * 2 ^ 16 + sum (running 0 s) % 2 ^ 16

-- ---- records that end with their check word

-- what stands before the last four bytes, and these
abbrev pub body : List ℕ → List ℕ
body s = take (length s - size) s

abbrev pub tail : List ℕ → List ℕ
tail s = drop (length s - size) s

-- the bytes s with their check word behind them
unfoldable pub sealed : List ℕ → List ℕ
sealed s = s ++ split (eights size) (check_word s)

-- the last four bytes are the check word of those before them
unfoldable pub is_sealed : List ℕ → Bool
is_sealed s = leb size (length s) && eqb (num (tail s)) (check_word (body s))

-- the check word put over the last four bytes; fewer are left as they are
unfoldable pub resealed : List ℕ → List ℕ
resealed s = cond (leb size (length s)) (sealed (body s)) s
