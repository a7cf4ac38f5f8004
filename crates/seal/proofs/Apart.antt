-- Lists that differ in no place are one; one more place, by cases. Assumes nothing.
use mathlib.Core.Path.{◌≡◌, refl, ap₂}
use Prim.Native.Nat.{ℕ, suc, ◌+◌}
use native.Mathlib.Omega.{arith}
use mathlib.Core.Bool.{Bool, true, false, cond}
use mathlib.Core.List.{List, [], ◌∷◌, ◌++◌}
use lib.Dec.{eqb}
use lib.ListN.{length}
use borrow.Author.Tests.{eqb-true, eqb-false, eq-eqb}
use Rattle.seal.specs.Apart.{apart}

-- of lists that differ in k places: the first elements are the same and the rest differ in k, or they are not and the rest differ in one place less
pub front : (x y n k : ℕ) {C : Type 0} → cond (eqb x y) 0 1 + n ≡ k → (x ≡ y → n ≡ k → C) → ((x ≡ y → ⊥) → suc n ≡ k → C) → C
front x y n k {C} h same other = by (eqb x y) refl
  where
    by : (b : Bool) → eqb x y ≡ b → C
    by true e = same (eqb-true x y e) (let z : ◌≡◌ {A = ℕ} (cond (eqb x y) 0 1) 0 = rw e in omega arith)
    by false e = other (eqb-false x y e) (let z : ◌≡◌ {A = ℕ} (cond (eqb x y) 0 1) 1 = rw e in omega arith)

pub none_apart : (s t : List ℕ) → length s ≡ length t → apart s t ≡ 0 → s ≡ t
none_apart [] [] l h = refl
none_apart [] (y ∷ t) l h = absurd (omega arith)
none_apart (x ∷ s) [] l h = absurd (omega arith)
none_apart (x ∷ s) (y ∷ t) l h =
    front x y (apart s t) 0 h
    (λ e k. ap₂ (λ (z : ℕ) (u : List ℕ). z ∷ u) e (none_apart s t (omega arith) k))
    (λ e k. absurd (omega arith))

pub apart_self : (s : List ℕ) → apart s s ≡ 0
apart_self [] = refl
apart_self (x ∷ s) = rw (eq-eqb x x refl) (omega (arith, apart_self s))

pub apart-append : (s t u v : List ℕ) → length s ≡ length t → apart (s ++ u) (t ++ v) ≡ apart s t + apart u v
apart-append [] [] u v l = omega arith
apart-append [] (y ∷ t) u v l = absurd (omega arith)
apart-append (x ∷ s) [] u v l = absurd (omega arith)
apart-append (x ∷ s) (y ∷ t) u v l = omega (arith, apart-append s t u v (omega arith))
