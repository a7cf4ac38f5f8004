-- What is added to both of two numbers can be taken away, modulo m. Assumes nothing.
use mathlib.Core.Path.{◌≡◌, sym, ap, ◌∙◌}
use Prim.Native.Nat.{ℕ, suc, ◌+◌, ◌*◌, ◌%◌}
use native.Mathlib.Nat.{add_comm, mod-add-mod, add-mul-mod_self_right}
use native.Mathlib.Omega.{arith}

module _ (m : ℕ) where
  pub same_less : (a b k : ℕ) → (a + k) % suc m ≡ (b + k) % suc m → a % suc m ≡ b % suc m
  same_less a b k h = sym (back a) ∙ sym (mod-add-mod (a + k) (suc m) (k * m)) ∙ ap (λ (x : ℕ). (x + k * m) % suc m) h ∙ mod-add-mod (b + k) (suc m) (k * m) ∙ back b
    where
      back : (x : ℕ) → (x + k + k * m) % suc m ≡ x % suc m
      back x =
          let e : x + k + k * m ≡ x + k * suc m = omega arith in
          ap (λ (y : ℕ). y % suc m) e ∙ add-mul-mod_self_right x k (suc m)

  pub same_behind : (a b k : ℕ) → (k + a) % suc m ≡ (k + b) % suc m → a % suc m ≡ b % suc m
  same_behind a b k h = same_less a b k (ap (λ (n : ℕ). n % suc m) (add_comm a k) ∙ h ∙ ap (λ (n : ℕ). n % suc m) (add_comm k b))
