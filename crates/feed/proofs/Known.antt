-- What is known of a feed through several reads. Assumes nothing.
use mathlib.Core.Bool.{true≢false}
use Rattle.std.proofs.Common.{◌≡◌, List, ℕ, refl, sym, subst, Option, Some, None, Result, Ok, Err, IfSome, OnOk}
use Rattle.std.specs.Result.{result_and}
use Rattle.feed.specs.Bytes.{Known}

pub if_some : (b : Option (List ℕ)) (ys : List ℕ) (Q : List ℕ → Type 0) → b ≡ Some ys → IfSome b Q → Q ys
if_some b ys Q e q = subst (λ o. IfSome o Q) e q

-- of two reads, one after the other
pub known_then : {E : Type 0} (e₀ e₁ e₂ : Result Unit E) (a b : Option (List ℕ)) (P Q R : List ℕ → Type 0) → Known e₀ e₁ a P → Known e₁ e₂ b Q
    → ((xs : List ℕ) → P xs → IfSome b Q → R xs) → Known e₀ e₂ a R
unfolding Known
known_then e₀ e₁ (Err x) a b P Q R h k f = tt
known_then e₀ (Err y) (Ok u) a b P Q R h k f = absurd (true≢false (sym k.0))
known_then e₀ (Ok w) (Ok u) None b P Q R h k f = (h.0, tt)
known_then e₀ (Ok w) (Ok u) (Some xs) b P Q R h k f = (h.0, f xs h.1 k.1)

-- both are known
pub known_both : {E : Type 0} (e₀ e₁ e₂ : Result Unit E) (a b : Option (List ℕ)) (P Q : List ℕ → Type 0) → Known e₀ e₁ a P → Known e₁ e₂ b Q → Known e₀ e₂ a (λ xs. P xs × IfSome b Q)
known_both e₀ e₁ e₂ a b P Q h k = known_then e₀ e₁ e₂ a b P Q (λ xs. P xs × IfSome b Q) h k (λ xs p q. (p, q))

-- what is known is known in other words
pub known_as : {E : Type 0} (e₀ e₁ : Result Unit E) (a : Option (List ℕ)) (P R : List ℕ → Type 0) → Known e₀ e₁ a P → ((xs : List ℕ) → P xs → R xs) → Known e₀ e₁ a R
unfolding Known
known_as e₀ (Err x) a P R h f = tt
known_as e₀ (Ok u) None P R h f = (h.0, tt)
known_as e₀ (Ok u) (Some xs) P R h f = (h.0, f xs h.1)

-- where nothing is read
pub known_still : {E : Type 0} (e : Result Unit E) (a : Option (List ℕ)) (P : List ℕ → Type 0) → IfSome a P → Known e e a P
unfolding Known
known_still (Err x) a P h = tt
known_still (Ok u) a P h = (refl, h)

-- ---- a run goes well where what is printed and every read do

open_and : {E : Type 0} (r v e : Result Unit E) (S : Type 0) → r ≡ result_and v e → (OnOk v (OnOk e S)) → OnOk r S
open_and r (Err x) e S is h = subst (λ z. OnOk z S) (sym is) tt
open_and r (Ok u) e S is h = subst (λ z. OnOk z S) (sym is) h

pub run_printed : {E : Type 0} (r v e₀ e₁ e₂ : Result Unit E) (a b : Option (List ℕ)) (P Q R : List ℕ → Type 0) → r ≡ result_and v e₂ → Known e₀ e₁ a P → OnOk v (Known e₁ e₂ b Q)
    → ((xs : List ℕ) → P xs → IfSome b Q → R xs) → OnOk r (IfSome a R)
unfolding Known
run_printed {E} r v e₀ e₁ e₂ a b P Q R is h k f = open_and r v e₂ (IfSome a R) is (by v e₂ k)
  where
    by : (v₁ e : Result Unit E) → OnOk v₁ (Known e₁ e b Q) → OnOk v₁ (OnOk e (IfSome a R))
    by (Err x) e k₁ = tt
    by (Ok u) (Err x) k₁ = tt
    by (Ok u) (Ok w) k₁ = (known_then e₀ e₁ (Ok w) a b P Q R h k₁ f).1

pub run_refused : {E : Type 0} (r v e₀ e₁ : Result Unit E) (a : Option (List ℕ)) (P : List ℕ → Type 0) (S : Type 0) (R : List ℕ → Type 0) → r ≡ result_and v e₁ → Known e₀ e₁ a P → OnOk v S
    → ((xs : List ℕ) → P xs → S → R xs) → OnOk r (IfSome a R)
unfolding Known
run_refused {E} r v e₀ e₁ a P S R is h k f = open_and r v e₁ (IfSome a R) is (by v e₁ h k)
  where
    by : (v₁ e : Result Unit E) → Known e₀ e a P → OnOk v₁ S → OnOk v₁ (OnOk e (IfSome a R))
    by (Err x) e h₁ k₁ = tt
    by (Ok u) (Err x) h₁ k₁ = tt
    by (Ok u) (Ok w) h₁ k₁ = (known_as e₀ (Ok w) a P R h₁ (λ xs p. f xs p k₁)).1
