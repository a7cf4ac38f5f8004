-- No second answer satisfies a contract, as the check reads it from the source. Assumes nothing.
use mathlib.Core.Path.{◌≡◌, sym, ◌∙◌}
use contract.Lifetimes.{Lfts}
use Rattle.walk.proofs.predict.Reads as predict

pub predict_one : (κs : Lfts 1) (a : _) (r₁ r₂ : _) (x : _) → predict.Post κs a r₁ x → predict.Post κs a r₂ x → r₁ ≡ r₂
predict_one κs a r₁ r₂ x p q = p ∙ sym q
