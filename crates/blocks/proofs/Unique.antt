-- No second answer satisfies a contract, as the check reads it from the source. Assumes nothing.
use mathlib.Core.Path.{◌≡◌, sym, ◌∙◌}
use mathlib.Core.List.{List}
use Prim.Native.Nat.{ℕ}
use contract.Lifetimes.{Lfts}
use Rattle.blocks.proofs.Blocks.none.Reads as none
use Rattle.blocks.proofs.Blocks.laid.Reads as laid
use Rattle.blocks.proofs.Blocks.of_lists.Reads as of_lists
use Rattle.blocks.proofs.is_sound.Reads as is_sound_lem
use Rattle.blocks.proofs.is_broken.Reads as is_broken
use Rattle.blocks.proofs.put.Reads as put

pub none_one : (κs : Lfts 0) (a : _) (r₁ r₂ : _) (x : _) → none.Post κs a r₁ x → none.Post κs a r₂ x → r₁ ≡ r₂
none_one κs a r₁ r₂ x p q = p ∙ sym q

pub laid_one : (κs : Lfts 1) (a : _) (r₁ r₂ : _) (x : _) → laid.Post κs a r₁ x → laid.Post κs a r₂ x → r₁ ≡ r₂
laid_one κs a r₁ r₂ x p q = p ∙ sym q

pub of_lists_one : (κs : Lfts 2) (a : _) (r₁ r₂ : _) (x : _) → of_lists.Post κs a r₁ x → of_lists.Post κs a r₂ x → r₁ ≡ r₂
of_lists_one κs a r₁ r₂ x p q = p ∙ sym q

pub is_sound_one : (κs : Lfts 0) (a : _) (r₁ r₂ : _) (x : _) → is_sound_lem.Post κs a r₁ x → is_sound_lem.Post κs a r₂ x → r₁ ≡ r₂
is_sound_one κs a r₁ r₂ x p q = p ∙ sym q

pub is_broken_one : (κs : Lfts 1) (a : _) (r₁ r₂ : _) (x : _) → is_broken.Post κs a r₁ x → is_broken.Post κs a r₂ x → r₁ ≡ r₂
is_broken_one κs a r₁ r₂ x p q = p ∙ sym q

pub put_one : (κs : Lfts 1) (a : _) (r₁ r₂ : _) (x₁ x₂ : _) → put.Post κs a r₁ x₁ → put.Post κs a r₂ x₂
    → ◌≡◌ {A = List ℕ} x₁.1.0.now x₂.1.0.now
put_one κs a r₁ r₂ x₁ x₂ p q = p ∙ sym q
