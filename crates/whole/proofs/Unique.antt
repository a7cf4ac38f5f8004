-- No second answer satisfies a contract, over the contracts as the check reads them from the source: a is the arguments, r₁ and r₂ are answers.
-- Assumes nothing.
use mathlib.Core.Path.{◌≡◌, sym, ◌∙◌}
use contract.Lifetimes.{Lfts}
use Rattle.whole.proofs.lesser.Reads as lesser
use Rattle.whole.proofs.greater.Reads as greater
use Rattle.whole.proofs.above.Reads as above
use Rattle.whole.proofs.floor_div.Reads as floor_div
use Rattle.whole.proofs.ceil_div.Reads as ceil_div
use Rattle.whole.proofs.isqrt.Reads as isqrt

module _ (κs : Lfts 0) where
  pub lesser_one : (a r₁ r₂ x₁ x₂ : _) → lesser.Post κs a r₁ x₁ → lesser.Post κs a r₂ x₂ → r₁ ≡ r₂
  lesser_one a r₁ r₂ x₁ x₂ p q = p ∙ sym q

  pub greater_one : (a r₁ r₂ x₁ x₂ : _) → greater.Post κs a r₁ x₁ → greater.Post κs a r₂ x₂ → r₁ ≡ r₂
  greater_one a r₁ r₂ x₁ x₂ p q = p ∙ sym q

  pub above_one : (a r₁ r₂ x₁ x₂ : _) → above.Post κs a r₁ x₁ → above.Post κs a r₂ x₂ → r₁ ≡ r₂
  above_one a r₁ r₂ x₁ x₂ p q = p ∙ sym q

  pub floor_div_one : (a r₁ r₂ x₁ x₂ : _) → floor_div.Post κs a r₁ x₁ → floor_div.Post κs a r₂ x₂ → r₁ ≡ r₂
  floor_div_one a r₁ r₂ x₁ x₂ p q = p ∙ sym q

  pub ceil_div_one : (a r₁ r₂ x₁ x₂ : _) → ceil_div.Post κs a r₁ x₁ → ceil_div.Post κs a r₂ x₂ → r₁ ≡ r₂
  ceil_div_one a r₁ r₂ x₁ x₂ p q = p ∙ sym q

  pub isqrt_one : (a r₁ r₂ x₁ x₂ : _) → isqrt.Post κs a r₁ x₁ → isqrt.Post κs a r₂ x₂ → r₁ ≡ r₂
  isqrt_one a r₁ r₂ x₁ x₂ p q = p ∙ sym q
