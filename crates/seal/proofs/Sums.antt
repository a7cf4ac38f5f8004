-- The two sums a byte at a time, and how often each byte counts in the second. Assumes nothing.
use mathlib.Core.Path.{◌≡◌, sym, ap, ap₂, ◌∙◌}
use Prim.Native.Nat.{ℕ, suc, ◌+◌, ◌*◌, ◌%◌, ◌^◌, ◌<◌}
use native.Mathlib.Nat.{mod-add-mod, add-mod}
use native.Mathlib.Omega.{arith}
use native.Mathlib.Numerals.{add-one}
use mathlib.Core.List.{List, [], ◌∷◌, ◌++◌}
use lib.ListN.{length, get_or, take}
use lib.Seq.{take-suc}
use Rattle.seal.specs.Seal.{sum, running}

sum_snoc : (s : List ℕ) (b : ℕ) → sum (s ++ b ∷ []) ≡ sum s + b
sum_snoc [] b = omega arith
sum_snoc (x ∷ s) b = omega (arith, sum_snoc s b)

running_snoc : (a : ℕ) (s : List ℕ) (b : ℕ) → sum (running a (s ++ b ∷ [])) ≡ sum (running a s) + (a + (sum s + b))
running_snoc a [] b = omega arith
running_snoc a (x ∷ s) b = omega (arith, running_snoc (a + x) s b)

-- one byte more
pub step : (a b i : ℕ) (s : List ℕ) → i < length s → a ≡ sum (take i s) % 2 ^ 16 → b ≡ sum (running 0 (take i s)) % 2 ^ 16
    → ((a + get_or s i 0) % 65536 ≡ sum (take (i + 1) s) % 2 ^ 16)
    × ((b + (a + get_or s i 0) % 65536) % 65536 ≡ sum (running 0 (take (i + 1) s)) % 2 ^ 16)
step a b i s h p q =
    let z = get_or s i 0 in
    let n = sum (take i s) in
    let r = sum (running 0 (take i s)) in
    let one : take (i + 1) s ≡ take i s ++ z ∷ [] = ap (λ (j : ℕ). take j s) (add-one i) ∙ take-suc s i 0 h in
    let u : sum (take (i + 1) s) ≡ n + z = ap sum one ∙ sum_snoc (take i s) z in
    let v : sum (running 0 (take (i + 1) s)) ≡ r + (n + z) = ap (λ (l : List ℕ). sum (running 0 l)) one ∙ running_snoc 0 (take i s) z ∙ omega arith in
    let first : (a + z) % 65536 ≡ (n + z) % 65536 = ap (λ (x : ℕ). (x + z) % 65536) p ∙ mod-add-mod n 65536 z in (
      first ∙ sym (ap (λ (x : ℕ). x % 65536) u),
      ap₂ (λ (x y : ℕ). (x + y) % 65536) q first ∙ sym (add-mod r (n + z) 65536) ∙ sym (ap (λ (x : ℕ). x % 65536) v),
    )

-- the last byte counts once, the one before it twice
abbrev pub weighed : List ℕ → ℕ
weighed [] = 0
weighed (x ∷ s) = suc (length s) * x + weighed s

running-weighed : (a : ℕ) (s : List ℕ) → sum (running a s) ≡ length s * a + weighed s
running-weighed a [] = omega arith
running-weighed a (x ∷ s) = omega (arith, running-weighed (a + x) s)

pub second_sum : (s : List ℕ) → sum (running 0 s) ≡ weighed s
second_sum s = omega (arith, running-weighed 0 s)
