-- The digits of a number: its last digit follows those of its tenth, and how many there are. Assumes nothing.
use mathlib.Core.Path.{◌≡◌, refl, ap, subst, sym, ◌∙◌}
use Prim.Native.Nat.{ℕ, zero, suc, ◌/◌, ◌%◌, ◌^◌, ◌<◌, ◌≤◌}
use native.Mathlib.Omega.{arith}
use native.Mathlib.Nat.{mod-eq_of_lt, div-lt_iff_lt-mul, pow-suc}
use mathlib.Core.Bool.{Bool, true, false}
use mathlib.Core.List.{List, [], ◌∷◌, ◌++◌}
use lib.ListN.{length, length-append}
use lib.Dec.{ltb}
use borrow.Author.Tests.{lt-ltb, le-ltb, ltb-true, ltb-false}
use Rattle.std.specs.Fmt as std
use Rattle.std.proofs.lemmas.Fmt.{decimal_by_steps_wide}
use Rattle.line.specs.Line.{glyph, unless_below, last_digits, decimal}

-- two bounds above n give the same digits
enough : (k j n : ℕ) → n < k → n < j → last_digits k n ≡ last_digits j n
unfolding last_digits
enough zero j n h i = absurd (omega arith)
enough (suc k) zero n h i = absurd (omega arith)
enough (suc k) (suc j) n h i = ap (λ (l : List ℕ). l ++ glyph (n % 10) ∷ []) (by (ltb n 10) refl (λ l m. enough k j (n / 10) l m))
  where
    by : (b : Bool) → ltb n 10 ≡ b → (n / 10 < k → n / 10 < j → last_digits k (n / 10) ≡ last_digits j (n / 10))
        → unless_below b (last_digits k (n / 10)) ≡ unless_below b (last_digits j (n / 10))
    by true e f = refl
    by false e f = f (omega (arith, ltb-false)) (omega (arith, ltb-false))

pub decimal_more : (n : ℕ) → 10 ≤ n → decimal n ≡ decimal (n / 10) ++ glyph (n % 10) ∷ []
unfolding decimal last_digits
decimal_more n h = rw (le-ltb n 10 h) (ap (λ (l : List ℕ). l ++ glyph (n % 10) ∷ []) (enough n (suc (n / 10)) (n / 10) (omega arith) (omega arith)))

pub decimal_last : (n : ℕ) → n < 10 → decimal n ≡ glyph n ∷ []
unfolding decimal last_digits
decimal_last n h = rw (lt-ltb n 10 h, mod-eq_of_lt h)

-- a number below 10 to the k + 1 has at most k + 1 digits
decimal_short : (k n : ℕ) → n < 10 ^ suc k → length (decimal n) ≤ suc k
decimal_short zero n h = omega (arith, ap length (decimal_last n (omega arith)))
decimal_short (suc k) n h = by (ltb n 10) refl (decimal_short k (n / 10) ((div-lt_iff_lt-mul (omega arith)).1 (subst (λ (m : ℕ). n < m) (pow-suc 10 (suc k)) h)))
  where
    by : (b : Bool) → ltb n 10 ≡ b → length (decimal (n / 10)) ≤ suc k → length (decimal n) ≤ suc (suc k)
    by true e l = omega (arith, ltb-true, ap length (decimal_last n (omega (arith, ltb-true))))
    by false e l = rw (decimal_more n (omega (arith, ltb-false))) (simp length-append (omega arith))

-- a number of 32 bits has at most ten
pub ten_digits : (n : ℕ) → n < 2 ^ 32 → length (decimal n) ≤ 10
ten_digits n h = decimal_short 9 n (omega arith)

-- what std writes of a number in decimal, which has at most 64 digits there
pub decimal_shown : (n : ℕ) → n < 10 ^ 64 → std.decimal n ≡ decimal n
decimal_shown =
    decimal_by_steps_wide (λ m ds. ds ≡ decimal m) (λ m h. sym (decimal_last m h))
    (λ m ds h e. ap (λ (l : List ℕ). l ++ glyph (m % 10) ∷ []) e ∙ sym (decimal_more m h))
