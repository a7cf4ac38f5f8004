-- No second answer satisfies a contract, as the check reads it from the source. Assumes nothing.
use mathlib.Core.Path.{◌≡◌, sym, ◌∙◌}
use contract.Lifetimes.{Lfts}
use Rattle.track.proofs.Track.laid.Reads as laid
use Rattle.track.proofs.Totals.summed.Reads as summed
use Rattle.track.proofs.Route.reached_at.Reads as reached_at
use Rattle.track.proofs.Route.under_train.Reads as under_train

pub laid_one : (κs : Lfts 1) (a : _) (r₁ r₂ : _) (x : _) → laid.Post κs a r₁ x → laid.Post κs a r₂ x → r₁ ≡ r₂
laid_one κs a r₁ r₂ x p q = p ∙ sym q

pub summed_one : (κs : Lfts 1) (a : _) (r₁ r₂ : _) (x : _) → summed.Post κs a r₁ x → summed.Post κs a r₂ x → r₁ ≡ r₂
summed_one κs a r₁ r₂ x p q = p ∙ sym q

pub reached_at_one : (κs : Lfts 1) (a : _) (r₁ r₂ : _) (x : _) → reached_at.Post κs a r₁ x → reached_at.Post κs a r₂ x → r₁ ≡ r₂
reached_at_one κs a r₁ r₂ x p q = p ∙ sym q

pub under_train_one : (κs : Lfts 1) (a : _) (r₁ r₂ : _) (x : _) → under_train.Post κs a r₁ x → under_train.Post κs a r₂ x → r₁ ≡ r₂
under_train_one κs a r₁ r₂ x p q = p ∙ sym q
