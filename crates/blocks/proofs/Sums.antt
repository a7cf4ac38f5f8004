-- Laws of sums, and that no block is longer or heavier than the train. Assumes nothing.
use mathlib.Core.Path.{◌≡◌, refl, ap, ap₂, subst, sym, ◌∙◌}
use mathlib.Core.List.{List}
use Prim.Native.Nat.{ℕ, zero, suc, ◌+◌, ◌≤◌, ◌<◌}
use native.Mathlib.Nat.{not-suc-le-zero}
use native.Mathlib.Decide.{ℕ_discrete}
use native.Mathlib.Numerals.{add-one}
use native.Mathlib.Omega.{arith}
use lib.ListN.{length, take, get_or}
use Rattle.std.specs.List.{sum_by}
use Rattle.std.proofs.lemmas.List.Sums.{sum_by_more}
use Rattle.blocks.specs.declared.Blocks.{Blocks}
use Rattle.blocks.specs.Blocks.{length_of, weight_of, sum_to}
use Rattle.blocks.specs.Sound.{Sound}

-- none of the first n is more than their sum
pub part_of_sum : (f : ℕ → ℕ) (n k : ℕ) → k < n → f k ≤ sum_to f n
unfolding sum_to
part_of_sum f zero k h = absurd (not-suc-le-zero h)
part_of_sum f (suc n) k h = by (ℕ_discrete k n) (part_of_sum f n k)
  where
    by : Dec (k ≡ n) → (k < n → f k ≤ sum_to f n) → f k ≤ sum_to f n + f n
    by (yes p) r = subst (λ (i : ℕ). f i ≤ sum_to f n + f n) (sym p) (omega arith)
    by (no p) r = omega (arith, r (omega arith))

-- a sum looks at the first n only
pub sum_same : (f g : ℕ → ℕ) (n : ℕ) → ((k : ℕ) → k < n → f k ≡ g k) → sum_to f n ≡ sum_to g n
unfolding sum_to
sum_same f g zero h = refl
sum_same f g (suc n) h = ap₂ (λ (a b : ℕ). a + b) (sum_same f g n (λ k l. h k (omega arith))) (h n (omega arith))

-- a sum over the front of a list
pub sum_front : (xs : List ℕ) (n : ℕ) → n ≤ length xs → sum_by (λ x. x) (take n xs) ≡ sum_to (λ k. get_or xs k 0) n
unfolding sum_to
sum_front xs zero h = refl
sum_front xs (suc n) h =
    ap (λ (i : ℕ). sum_by (λ (x : ℕ). x) (take i xs)) (sym (add-one n)) ∙ sum_by_more (λ x. x) xs n 0 h ∙ ap (λ (s : ℕ). s + get_or xs n 0) (sum_front xs n (omega arith))

-- the sum of fewer is no more
pub sum_mono : (f : ℕ → ℕ) (n m : ℕ) → n ≤ m → sum_to f n ≤ sum_to f m
unfolding sum_to
sum_mono f n zero h = let e : n ≡ 0 = omega arith in subst (λ (i : ℕ). sum_to f i ≤ 0) (sym e) (omega arith)
sum_mono f n (suc m) h = by (ℕ_discrete n (suc m)) (sum_mono f n m)
  where
    by : Dec (n ≡ suc m) → (n ≤ m → sum_to f n ≤ sum_to f m) → sum_to f n ≤ sum_to f m + f m
    by (yes p) r = subst (λ (i : ℕ). sum_to f i ≤ sum_to f m + f m) (sym p) (omega arith)
    by (no p) r = omega (arith, r (omega arith))

pub length_most : (b : Blocks) (l w : ℕ) → Sound b l w → (k : ℕ) → k < b.count → length_of b k ≤ l
length_most b l w s k h = omega (arith, part_of_sum (length_of b) b.count k h, s.lengths (omega arith))

pub weight_most : (b : Blocks) (l w : ℕ) → Sound b l w → (k : ℕ) → k < b.count → weight_of b k ≤ w
weight_most b l w s k h = omega (arith, part_of_sum (weight_of b) b.count k h, s.weights (omega arith))
