-- Which record holds at a location x: one that starts at or before it, with none after it that does. Assumes nothing.
use mathlib.Core.Path.{◌≡◌, refl, sym, ap, subst, ◌∙◌}
use mathlib.Core.Bool.{Bool, true, false, cond}
use mathlib.Core.List.{List}
use Prim.Native.Nat.{ℕ, zero, suc, ◌+◌, ◌-◌, ◌≤◌, ◌<◌}
use native.Mathlib.Decide.{ℕ_discrete, dec_le}
use native.Mathlib.Numerals.{add-one}
use native.Mathlib.Omega.{arith}
use lib.Dec.{leb}
use lib.ListN.{get_or}
use borrow.Author.Tests.{le-leb, lt-leb}
use Rattle.track.specs.Totals.{holding_to}
use Rattle.track.specs.Steps.{Rises}

module _ (starts : List ℕ) (x : ℕ) where
  -- a record that starts at or before x holds among those up to it
  pub holding_here : (k : ℕ) → get_or starts k 0 ≤ x → holding_to starts x k ≡ k
  unfolding holding_to
  holding_here zero h = refl
  holding_here (suc k) h = rw (le-leb (get_or starts (suc k) 0) x h)

  -- one that starts past x leaves it to those before
  pub holding_before : (k : ℕ) → x < get_or starts (suc k) 0 → holding_to starts x (suc k) ≡ holding_to starts x k
  unfolding holding_to
  holding_before k h = rw (lt-leb (get_or starts (suc k) 0) x h)

  -- the same, of the record before
  pub holding_less : (k : ℕ) → 0 < k → x < get_or starts k 0 → holding_to starts x (k - 1) ≡ holding_to starts x k
  holding_less zero l h = absurd (omega arith)
  holding_less (suc k) l h =
      let e : suc k - 1 ≡ k = omega arith in
      ap (holding_to starts x) e ∙ sym (holding_before k h)

  -- no record past those that are asked for
  pub holding_most : (n : ℕ) → holding_to starts x n ≤ n
  unfolding holding_to
  holding_most zero = omega arith
  holding_most (suc n) = by (leb (get_or starts (suc n) 0) x) (holding_most n)
    where
      by : (b : Bool) → holding_to starts x n ≤ n → cond b (suc n) (holding_to starts x n) ≤ suc n
      by true h = omega arith
      by false h = omega arith

  -- among the records up to it, it holds again
  pub holding_twice : (n : ℕ) → holding_to starts x (holding_to starts x n) ≡ holding_to starts x n
  unfolding holding_to
  holding_twice zero = refl
  holding_twice (suc n) = by (dec_le (get_or starts (suc n) 0) x) (holding_twice n)
    where
      by : Dec (get_or starts (suc n) 0 ≤ x) → holding_to starts x (holding_to starts x n) ≡ holding_to starts x n
          → holding_to starts x (holding_to starts x (suc n)) ≡ holding_to starts x (suc n)
      by (yes a) r = ap (holding_to starts x) (holding_here (suc n) a)
      by (no a) r = rw (holding_before n (omega arith)) r

  -- but for the first, it starts at or before x
  pub holding_starts : (n : ℕ) → 0 < holding_to starts x n → get_or starts (holding_to starts x n) 0 ≤ x
  unfolding holding_to
  holding_starts zero l = absurd (omega arith)
  holding_starts (suc n) l = by (dec_le (get_or starts (suc n) 0) x) (holding_starts n)
    where
      by : Dec (get_or starts (suc n) 0 ≤ x) → (0 < holding_to starts x n → get_or starts (holding_to starts x n) 0 ≤ x) → get_or starts (holding_to starts x (suc n)) 0 ≤ x
      by (yes a) r = rw (holding_here (suc n) a) a
      by (no a) r = rw (holding_before n (omega arith)) (r (omega (arith, holding_before n (omega arith))))

  module _ (last : ℕ) (rises : Rises starts last) (k : ℕ) (h : x < get_or starts (k + 1) 0) where
    -- where the next starts past x, so do all after it
    pub past : (m : ℕ) → k < m → m ≤ last → x < get_or starts m 0
    past zero l u = absurd (omega arith)
    past (suc m) l u = by (ℕ_discrete k m) (past m)
      where
        by : Dec (k ≡ m) → (k < m → m ≤ last → x < get_or starts m 0) → x < get_or starts (suc m) 0
        by (yes e) r = subst (λ (i : ℕ). x < get_or starts i 0) (add-one k ∙ ap suc e) h
        by (no n) r = omega (arith, r (omega arith) (omega arith), rises.each m u, ap (λ (i : ℕ). get_or starts i 0) (add-one m))

    -- so among more records the same holds
    pub holding_stays : (m : ℕ) → k ≤ m → m ≤ last → holding_to starts x m ≡ holding_to starts x k
    holding_stays zero l u =
        let e : 0 ≡ k = omega arith in
        ap (holding_to starts x) e
    holding_stays (suc m) l u = by (ℕ_discrete k (suc m)) (holding_stays m)
      where
        by : Dec (k ≡ suc m) → (k ≤ m → m ≤ last → holding_to starts x m ≡ holding_to starts x k) → holding_to starts x (suc m) ≡ holding_to starts x k
        by (yes e) r = ap (holding_to starts x) (sym e)
        by (no n) r = holding_before m (past (suc m) (omega arith) u) ∙ r (omega arith) (omega arith)
