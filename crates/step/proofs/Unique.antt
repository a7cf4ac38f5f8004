-- No second answer satisfies a contract, as the check reads it from the source. Assumes nothing.
use mathlib.Core.Path.{◌≡◌, sym, ◌∙◌}
use contract.Lifetimes.{Lfts}
use Rattle.step.proofs.Curve.penalty.Reads as penalty
use Rattle.step.proofs.Curve.emergency.Reads as emergency
use Rattle.step.proofs.Run.stepped.Reads as stepped

pub penalty_one : (κs : Lfts 0) (a : _) (r₁ r₂ : _) (x : _) → penalty.Post κs a r₁ x → penalty.Post κs a r₂ x → r₁ ≡ r₂
penalty_one κs a r₁ r₂ x p q = p ∙ sym q

pub emergency_one : (κs : Lfts 0) (a : _) (r₁ r₂ : _) (x : _) → emergency.Post κs a r₁ x → emergency.Post κs a r₂ x → r₁ ≡ r₂
emergency_one κs a r₁ r₂ x p q = p ∙ sym q

pub stepped_one : (κs : Lfts 0) (a : _) (r₁ r₂ : _) (x : _) → stepped.Post κs a r₁ x → stepped.Post κs a r₂ x → r₁ ≡ r₂
stepped_one κs a r₁ r₂ x p q = p ∙ sym q
