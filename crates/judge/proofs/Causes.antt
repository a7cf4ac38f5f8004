-- Laws of a cause: where the first is, and that it is one of eight. Assumes nothing.
use mathlib.Core.Path.{◌≡◌, sym, ◌∙◌}
use mathlib.Core.Bool.{Bool, true, false, cond}
use mathlib.Core.List.{List}
use Prim.Native.Nat.{ℕ, zero, suc, ◌+◌, ◌-◌, ◌≤◌, ◌<◌, min}
use native.Mathlib.Nat.{le_trans}
use native.Mathlib.Numerals.{add-one}
use native.Mathlib.Omega.{arith}
use Rattle.targets.specs.Targets.{most}
use Rattle.judge.specs.Judge.{first_from, cause_of, emergency_cause_of}

-- where k is the first, and where it is not; b says which, as a test does
module _ (f : ℕ → Bool) (k n : ℕ) {b : Bool} (e : b ≡ f k) where
  first_here : b ≡ true → first_from f k (suc n) ≡ suc k
  unfolding first_from
  first_here t = rw (← e, t)

  first_later : b ≡ false → first_from f k (suc n) ≡ first_from f (suc k) n
  unfolding first_from
  first_later t = rw (← e, t)

-- the first of n, from k on, where b says whether it is k
module _ (f : ℕ → Bool) (k n : ℕ) {b : Bool} (h : k < n) (e : b ≡ f k) where
  one_more : n - k ≡ suc (n - (k + 1))
  one_more = omega arith

  pub found : b ≡ true → first_from f k (n - k) ≡ k + 1
  found t = rw one_more (first_here f k (n - (k + 1)) e t ∙ sym (add-one k))

  pub not_here : b ≡ false → first_from f k (n - k) ≡ first_from f (k + 1) (n - (k + 1))
  not_here t = rw (one_more, add-one k) (first_later f k (n - suc k) e t)

pub none_left : (f : ℕ → Bool) (k n : ℕ) → n ≤ k → first_from f k (n - k) ≡ 0
unfolding first_from
none_left f k n h = let z : n - k ≡ 0 = omega arith in rw z

first_most : (f : ℕ → Bool) (k n : ℕ) → first_from f k n ≤ k + n
unfolding first_from
first_most f k zero = omega arith
first_most f k (suc n) = go (f k) (first_most f (suc k) n)
  where
    go : (b : Bool) → first_from f (suc k) n ≤ suc k + n → cond b (suc k) (first_from f (suc k) n) ≤ k + suc n
    go true h = omega arith
    go false h = omega arith

pub cause_most : (offset head v count : ℕ) (targets speeds arrivals : List ℕ) → cause_of offset head v count targets speeds arrivals ≤ most
unfolding cause_of
cause_most offset head v count targets speeds arrivals = le_trans (first_most _ 0 (min count most)) (omega arith)

pub emergency_cause_most : (head count : ℕ) (targets speeds : List ℕ) (stop : ℕ) → emergency_cause_of head count targets speeds stop ≤ most
unfolding emergency_cause_of
emergency_cause_most head count targets speeds stop = le_trans (first_most _ 0 (min count most)) (omega arith)
