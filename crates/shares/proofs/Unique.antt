-- No second answer satisfies the contract, as the check reads it from the source. Assumes nothing.
use mathlib.Core.Path.{◌≡◌, sym, ◌∙◌}
use contract.Lifetimes.{Lfts}
use Rattle.shares.proofs.under.Reads as under

pub under_one : (κs : Lfts 3) (a r₁ r₂ x₁ x₂ : _) → under.Post κs a r₁ x₁ → under.Post κs a r₂ x₂ → r₁ ≡ r₂
under_one κs a r₁ r₂ x₁ x₂ p q = p ∙ sym q
