-- No second answer satisfies the contract, as the check reads it from the source. Assumes nothing.
use mathlib.Core.Path.{◌≡◌, sym, ◌∙◌}
use contract.Lifetimes.{Lfts}
use Rattle.refusal.proofs.Numbers.{answer_one}
use Rattle.sample.specs.Sample.{no_sample}
use Rattle.admission.proofs.admit.Reads as admit

module _ (κs : Lfts 3) where
  pub admit_one : (a r₁ r₂ x₁ x₂ : _) → admit.Post κs a r₁ x₁ → admit.Post κs a r₂ x₂ → r₁ ≡ r₂
  admit_one a r₁ r₂ x₁ x₂ p q = answer_one no_sample r₁ r₂ (p ∙ sym q)
