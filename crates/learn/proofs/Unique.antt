-- No second answer satisfies a contract, over the contracts as the check reads them from the source: a is the arguments, r₁ and r₂ are answers.
-- Assumes nothing.
use mathlib.Core.Path.{◌≡◌, sym, ◌∙◌}
use contract.Lifetimes.{Lfts}
use Rattle.learn.proofs.Stage.number.Reads as stage_number
use Rattle.learn.proofs.Stage.of_number.Reads as stage_of
use Rattle.learn.proofs.Learner.bare.Reads as bare
use Rattle.learn.proofs.Learner.is_at_opening.Reads as is_at_opening_lem
use Rattle.learn.proofs.Learner.is_sound.Reads as is_sound_lem
use Rattle.learn.proofs.taught.Reads as taught

module _ (κs : Lfts 0) where
  pub stage_number_one : (a r₁ r₂ x₁ x₂ : _) → stage_number.Post κs a r₁ x₁ → stage_number.Post κs a r₂ x₂ → r₁ ≡ r₂
  stage_number_one a r₁ r₂ x₁ x₂ p q = p ∙ sym q

  pub stage_of_one : (a r₁ r₂ x₁ x₂ : _) → stage_of.Post κs a r₁ x₁ → stage_of.Post κs a r₂ x₂ → r₁ ≡ r₂
  stage_of_one a r₁ r₂ x₁ x₂ p q = p ∙ sym q

  pub bare_one : (a r₁ r₂ x₁ x₂ : _) → bare.Post κs a r₁ x₁ → bare.Post κs a r₂ x₂ → r₁ ≡ r₂
  bare_one a r₁ r₂ x₁ x₂ p q = p ∙ sym q

  pub is_at_opening_one : (a r₁ r₂ x₁ x₂ : _) → is_at_opening_lem.Post κs a r₁ x₁ → is_at_opening_lem.Post κs a r₂ x₂ → r₁ ≡ r₂
  is_at_opening_one a r₁ r₂ x₁ x₂ p q = p ∙ sym q

  pub is_sound_one : (a r₁ r₂ x₁ x₂ : _) → is_sound_lem.Post κs a r₁ x₁ → is_sound_lem.Post κs a r₂ x₂ → r₁ ≡ r₂
  is_sound_one a r₁ r₂ x₁ x₂ p q = p ∙ sym q

  pub taught_one : (a r₁ r₂ x₁ x₂ : _) → taught.Post κs a r₁ x₁ → taught.Post κs a r₂ x₂ → r₁ ≡ r₂
  taught_one a r₁ r₂ x₁ x₂ p q = p ∙ sym q
