-- No second answer satisfies the contract, over the contract as the check reads it from the source: a is the arguments, r₁ and r₂ are answers.
-- Assumes nothing.
use mathlib.Core.Path.{◌≡◌, sym, ◌∙◌}
use contract.Lifetimes.{Lfts}
use Rattle.update.proofs.updated.Reads as updated

pub updated_one : (κs : Lfts 0) (a r₁ r₂ x₁ x₂ : _) → updated.Post κs a r₁ x₁ → updated.Post κs a r₂ x₂ → r₁ ≡ r₂
updated_one κs a r₁ r₂ x₁ x₂ p q = p ∙ sym q
