-- No second answer satisfies a public function's contract, as the check reads it from the source. Assumes nothing.
use mathlib.Core.Path.{◌≡◌, sym, ◌∙◌}
use contract.Lifetimes.{Lfts}
use Rattle.hundredths.proofs.Told.{reading_one}
use Rattle.hundredths.proofs.float_of.Reads as float_of
use Rattle.hundredths.proofs.bits_of.Reads as bits_of
use Rattle.hundredths.proofs.speed.Reads as speed
use Rattle.hundredths.proofs.pressure.Reads as pressure

pub float_of_one : (κs : Lfts 0) (a : _) (r₁ r₂ : _) (x : _) → float_of.Post κs a r₁ x → float_of.Post κs a r₂ x → r₁ ≡ r₂
float_of_one κs a r₁ r₂ x p q = p ∙ sym q

pub bits_of_one : (κs : Lfts 0) (a : _) (r₁ r₂ : _) (x : _) → bits_of.Post κs a r₁ x → bits_of.Post κs a r₂ x → r₁ ≡ r₂
bits_of_one κs a r₁ r₂ x p q = p ∙ sym q

pub speed_one : (κs : Lfts 0) (a : _) (r₁ r₂ : _) (x : _) → speed.Post κs a r₁ x → speed.Post κs a r₂ x → r₁ ≡ r₂
speed_one κs a r₁ r₂ x p q = reading_one _ _ (p ∙ sym q)

pub pressure_one : (κs : Lfts 0) (a : _) (r₁ r₂ : _) (x : _) → pressure.Post κs a r₁ x → pressure.Post κs a r₂ x → r₁ ≡ r₂
pressure_one κs a r₁ r₂ x p q = reading_one _ _ (p ∙ sym q)
