-- No second answer satisfies a contract, as the check reads it from the source. Assumes nothing.
use mathlib.Core.Path.{◌≡◌, sym, ◌∙◌}
use contract.Lifetimes.{Lfts}
use Rattle.judge.proofs.offset_for.Reads as offset_for
use Rattle.judge.proofs.cause.Reads as cause
use Rattle.judge.proofs.standing.Reads as standing
use Rattle.judge.proofs.emergency_cause.Reads as emergency_cause

module _ (κs : Lfts 0) where
  pub offset_for_one : (a r₁ r₂ x₁ x₂ : _) → offset_for.Post κs a r₁ x₁ → offset_for.Post κs a r₂ x₂ → r₁ ≡ r₂
  offset_for_one a r₁ r₂ x₁ x₂ p q = p ∙ sym q

  pub standing_one : (a r₁ r₂ x₁ x₂ : _) → standing.Post κs a r₁ x₁ → standing.Post κs a r₂ x₂ → r₁ ≡ r₂
  standing_one a r₁ r₂ x₁ x₂ p q = p ∙ sym q

module _ (κs : Lfts 1) where
  pub cause_one : (a r₁ r₂ x₁ x₂ : _) → cause.Post κs a r₁ x₁ → cause.Post κs a r₂ x₂ → r₁ ≡ r₂
  cause_one a r₁ r₂ x₁ x₂ p q = p ∙ sym q

  pub emergency_cause_one : (a r₁ r₂ x₁ x₂ : _) → emergency_cause.Post κs a r₁ x₁ → emergency_cause.Post κs a r₂ x₂ → r₁ ≡ r₂
  emergency_cause_one a r₁ r₂ x₁ x₂ p q = p ∙ sym q
