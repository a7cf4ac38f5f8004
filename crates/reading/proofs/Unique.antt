-- No second answer satisfies a contract, over the contracts as the check reads them from the source: a is the arguments, r₁ and r₂ are answers.
-- Assumes nothing.
use mathlib.Core.Path.{◌≡◌, sym, ◌∙◌}
use contract.Lifetimes.{Lfts}
use Rattle.reading.proofs.heard.Reads as heard
use Rattle.reading.proofs.nominal.Reads as nominal
use Rattle.reading.proofs.of_sample.Reads as of_sample

module _ (κs : Lfts 0) where
  pub heard_one : (a r₁ r₂ x₁ x₂ : _) → heard.Post κs a r₁ x₁ → heard.Post κs a r₂ x₂ → r₁ ≡ r₂
  heard_one a r₁ r₂ x₁ x₂ p q = p ∙ sym q

  pub nominal_one : (a r₁ r₂ x₁ x₂ : _) → nominal.Post κs a r₁ x₁ → nominal.Post κs a r₂ x₂ → r₁ ≡ r₂
  nominal_one a r₁ r₂ x₁ x₂ p q = p ∙ sym q

  pub of_sample_one : (a r₁ r₂ x₁ x₂ : _) → of_sample.Post κs a r₁ x₁ → of_sample.Post κs a r₂ x₂ → r₁ ≡ r₂
  of_sample_one a r₁ r₂ x₁ x₂ p q = p ∙ sym q
