-- No second answer satisfies a contract, over the contracts as the check reads them from the source: a is the arguments, r₁ and r₂ are answers.
-- Assumes nothing.
use mathlib.Core.Path.{◌≡◌, sym, ◌∙◌}
use contract.Lifetimes.{Lfts}
use Rattle.air.proofs.Air.of.Reads as of_brake
use Rattle.air.proofs.Air.applying_emergency.Reads as applying_emergency
use Rattle.air.proofs.Air.applying.Reads as applying
use Rattle.air.proofs.Air.charging.Reads as charging
use Rattle.air.proofs.Air.fallen_in_service.Reads as fallen_in_service
use Rattle.air.proofs.Air.fallen_in_emergency.Reads as fallen_in_emergency
use Rattle.air.proofs.Air.in_emergency.Reads as in_emergency

module _ (κs : Lfts 0) where
  pub of_brake_one : (a r₁ r₂ x₁ x₂ : _) → of_brake.Post κs a r₁ x₁ → of_brake.Post κs a r₂ x₂ → r₁ ≡ r₂
  of_brake_one a r₁ r₂ x₁ x₂ p q = p ∙ sym q

  pub applying_emergency_one : (a r₁ r₂ x₁ x₂ : _) → applying_emergency.Post κs a r₁ x₁ → applying_emergency.Post κs a r₂ x₂ → r₁ ≡ r₂
  applying_emergency_one a r₁ r₂ x₁ x₂ p q = p ∙ sym q

  pub applying_one : (a r₁ r₂ x₁ x₂ : _) → applying.Post κs a r₁ x₁ → applying.Post κs a r₂ x₂ → r₁ ≡ r₂
  applying_one a r₁ r₂ x₁ x₂ p q = p ∙ sym q

  pub charging_one : (a r₁ r₂ x₁ x₂ : _) → charging.Post κs a r₁ x₁ → charging.Post κs a r₂ x₂ → r₁ ≡ r₂
  charging_one a r₁ r₂ x₁ x₂ p q = p ∙ sym q

  pub fallen_in_service_one : (a r₁ r₂ x₁ x₂ : _) → fallen_in_service.Post κs a r₁ x₁ → fallen_in_service.Post κs a r₂ x₂ → r₁ ≡ r₂
  fallen_in_service_one a r₁ r₂ x₁ x₂ p q = p ∙ sym q

  pub fallen_in_emergency_one : (a r₁ r₂ x₁ x₂ : _) → fallen_in_emergency.Post κs a r₁ x₁ → fallen_in_emergency.Post κs a r₂ x₂ → r₁ ≡ r₂
  fallen_in_emergency_one a r₁ r₂ x₁ x₂ p q = p ∙ sym q

  pub in_emergency_one : (a r₁ r₂ x₁ x₂ : _) → in_emergency.Post κs a r₁ x₁ → in_emergency.Post κs a r₂ x₂ → r₁ ≡ r₂
  in_emergency_one a r₁ r₂ x₁ x₂ p q = p ∙ sym q
