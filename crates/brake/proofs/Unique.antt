-- No second answer satisfies a contract, over the contracts as the check reads them from the source: a is the arguments, r₁ and r₂ are answers.
-- Assumes nothing.
use mathlib.Core.Path.{◌≡◌, sym, ◌∙◌}
use contract.Lifetimes.{Lfts}
use Rattle.brake.proofs.State.number.Reads as state_number
use Rattle.brake.proofs.State.of_number.Reads as state_of
use Rattle.brake.proofs.Choice.number.Reads as choice_number
use Rattle.brake.proofs.Choice.of_number.Reads as choice_of
use Rattle.brake.proofs.heard_number.Reads as heard_number
use Rattle.brake.proofs.heard_of.Reads as heard_of
use Rattle.brake.proofs.equalization_service.Reads as equalization_service
use Rattle.brake.proofs.Brake.at_opening.Reads as at_opening
use Rattle.brake.proofs.Brake.is_at_opening.Reads as is_at_opening_lem
use Rattle.brake.proofs.Brake.is_sound.Reads as is_sound_lem

module _ (κs : Lfts 0) where
  pub state_number_one : (a r₁ r₂ x₁ x₂ : _) → state_number.Post κs a r₁ x₁ → state_number.Post κs a r₂ x₂ → r₁ ≡ r₂
  state_number_one a r₁ r₂ x₁ x₂ p q = p ∙ sym q

  pub state_of_one : (a r₁ r₂ x₁ x₂ : _) → state_of.Post κs a r₁ x₁ → state_of.Post κs a r₂ x₂ → r₁ ≡ r₂
  state_of_one a r₁ r₂ x₁ x₂ p q = p ∙ sym q

  pub choice_number_one : (a r₁ r₂ x₁ x₂ : _) → choice_number.Post κs a r₁ x₁ → choice_number.Post κs a r₂ x₂ → r₁ ≡ r₂
  choice_number_one a r₁ r₂ x₁ x₂ p q = p ∙ sym q

  pub choice_of_one : (a r₁ r₂ x₁ x₂ : _) → choice_of.Post κs a r₁ x₁ → choice_of.Post κs a r₂ x₂ → r₁ ≡ r₂
  choice_of_one a r₁ r₂ x₁ x₂ p q = p ∙ sym q

  pub heard_number_one : (a r₁ r₂ x₁ x₂ : _) → heard_number.Post κs a r₁ x₁ → heard_number.Post κs a r₂ x₂ → r₁ ≡ r₂
  heard_number_one a r₁ r₂ x₁ x₂ p q = p ∙ sym q

  pub heard_of_one : (a r₁ r₂ x₁ x₂ : _) → heard_of.Post κs a r₁ x₁ → heard_of.Post κs a r₂ x₂ → r₁ ≡ r₂
  heard_of_one a r₁ r₂ x₁ x₂ p q = p ∙ sym q

  pub equalization_service_one : (a r₁ r₂ x₁ x₂ : _) → equalization_service.Post κs a r₁ x₁ → equalization_service.Post κs a r₂ x₂ → r₁ ≡ r₂
  equalization_service_one a r₁ r₂ x₁ x₂ p q = p ∙ sym q

  pub at_opening_one : (a r₁ r₂ x₁ x₂ : _) → at_opening.Post κs a r₁ x₁ → at_opening.Post κs a r₂ x₂ → r₁ ≡ r₂
  at_opening_one a r₁ r₂ x₁ x₂ p q = p ∙ sym q

  pub is_at_opening_one : (a r₁ r₂ x₁ x₂ : _) → is_at_opening_lem.Post κs a r₁ x₁ → is_at_opening_lem.Post κs a r₂ x₂ → r₁ ≡ r₂
  is_at_opening_one a r₁ r₂ x₁ x₂ p q = p ∙ sym q

  pub is_sound_one : (a r₁ r₂ x₁ x₂ : _) → is_sound_lem.Post κs a r₁ x₁ → is_sound_lem.Post κs a r₂ x₂ → r₁ ≡ r₂
  is_sound_one a r₁ r₂ x₁ x₂ p q = p ∙ sym q
