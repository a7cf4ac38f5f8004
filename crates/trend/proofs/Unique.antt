-- No second answer satisfies a contract, over the contracts as the check reads them from the source: a is the arguments, r₁ and r₂ are answers.
-- Assumes nothing.
use mathlib.Core.Path.{◌≡◌, sym, ◌∙◌}
use contract.Lifetimes.{Lfts}
use Rattle.trend.proofs.Sums.none.Reads as none
use Rattle.trend.proofs.Sums.is_sound.Reads as is_sound_lem
use Rattle.trend.proofs.Sums.with_point.Reads as with_point
use Rattle.trend.proofs.levels_off.Reads as levels_off
use Rattle.trend.proofs.result.Reads as result

module _ (κs : Lfts 0) where
  pub none_one : (a r₁ r₂ x₁ x₂ : _) → none.Post κs a r₁ x₁ → none.Post κs a r₂ x₂ → r₁ ≡ r₂
  none_one a r₁ r₂ x₁ x₂ p q = p ∙ sym q

  pub is_sound_one : (a r₁ r₂ x₁ x₂ : _) → is_sound_lem.Post κs a r₁ x₁ → is_sound_lem.Post κs a r₂ x₂ → r₁ ≡ r₂
  is_sound_one a r₁ r₂ x₁ x₂ p q = p ∙ sym q

  pub with_point_one : (a r₁ r₂ x₁ x₂ : _) → with_point.Post κs a r₁ x₁ → with_point.Post κs a r₂ x₂ → r₁ ≡ r₂
  with_point_one a r₁ r₂ x₁ x₂ p q = p.0 ∙ sym q.0

  pub levels_off_one : (a r₁ r₂ x₁ x₂ : _) → levels_off.Post κs a r₁ x₁ → levels_off.Post κs a r₂ x₂ → r₁ ≡ r₂
  levels_off_one a r₁ r₂ x₁ x₂ p q = p ∙ sym q

  pub result_one : (a r₁ r₂ x₁ x₂ : _) → result.Post κs a r₁ x₁ → result.Post κs a r₂ x₂ → r₁ ≡ r₂
  result_one a r₁ r₂ x₁ x₂ p q = p ∙ sym q
