-- No second answer satisfies a contract, as the check reads it from the source. Assumes nothing.
use mathlib.Core.Path.{◌≡◌, sym, ◌∙◌}
use Prim.Native.Nat.{ℕ}
use mathlib.Core.List.{List}
use contract.Lifetimes.{Lfts}
use Rattle.seal.proofs.check_word.Reads as check_word
use Rattle.seal.proofs.is_sealed.Reads as is_sealed_lem
use Rattle.seal.proofs.put_check_word.Reads as put_check_word

pub check_word_one : (κs : Lfts 1) (a : _) (r₁ r₂ : _) (x : _) → check_word.Post κs a r₁ x → check_word.Post κs a r₂ x → r₁ ≡ r₂
check_word_one κs a r₁ r₂ x p q = p ∙ sym q

pub is_sealed_one : (κs : Lfts 1) (a : _) (r₁ r₂ : _) (x : _) → is_sealed_lem.Post κs a r₁ x → is_sealed_lem.Post κs a r₂ x → r₁ ≡ r₂
is_sealed_one κs a r₁ r₂ x p q = p ∙ sym q

pub put_check_word_one : (κs : Lfts 1) (a : _) (r₁ r₂ : _) (x₁ x₂ : _) → put_check_word.Post κs a r₁ x₁ → put_check_word.Post κs a r₂ x₂
    → ◌≡◌ {A = List ℕ} x₁.0.now x₂.0.now
put_check_word_one κs a r₁ r₂ x₁ x₂ p q = p ∙ sym q
