-- No second answer satisfies the contract, as the check reads it from the source. Assumes nothing.
use mathlib.Core.Path.{◌≡◌, sym, ◌∙◌}
use contract.Lifetimes.{Lfts}
use Rattle.prediction.proofs.of_sample.Reads as of_sample

module _ (κs : Lfts 2) where
  pub of_sample_one : (a r₁ r₂ x₁ x₂ : _) → of_sample.Post κs a r₁ x₁ → of_sample.Post κs a r₂ x₂ → r₁ ≡ r₂
  of_sample_one a r₁ r₂ x₁ x₂ p q = p ∙ sym q
