-- No second answer satisfies a contract, as the check reads it from the source. Assumes nothing.
use mathlib.Core.Path.{◌≡◌, refl, sym, ◌∙◌}
use mathlib.Core.Bool.{Bool, true, false}
use contract.Lifetimes.{Lfts}
use Rattle.opening.specs.Opening.{Tells}
use Rattle.opening.proofs.is_everlasting.Reads as is_everlasting
use Rattle.opening.proofs.Section.count_size.Reads as count_size
use Rattle.opening.proofs.Section.ahead.Reads as ahead
use Rattle.opening.proofs.Section.taken.Reads as taken
use Rattle.opening.proofs.Section.refusal.Reads as refusal

told_one : {P : Type 0} (a b : Bool) → Tells a P → Tells b P → a ≡ b
told_one true true p q = refl
told_one true false p q = sym (q.1 (p.0 refl))
told_one false true p q = p.1 (q.0 refl)
told_one false false p q = refl

pub is_everlasting_one : (κs : Lfts 1) (a : _) (r₁ r₂ : _) (x : _) → is_everlasting.Post κs a r₁ x → is_everlasting.Post κs a r₂ x → r₁ ≡ r₂
is_everlasting_one κs a r₁ r₂ x p q = told_one r₁ r₂ p q

-- of each list
pub count_size_one : (κs : Lfts 0) (a : _) (r₁ r₂ : _) (x : _) → count_size.Post κs a r₁ x → count_size.Post κs a r₂ x → r₁ ≡ r₂
count_size_one κs a r₁ r₂ x p q = p ∙ sym q

pub ahead_one : (κs : Lfts 1) (a : _) (r₁ r₂ : _) (x : _) → ahead.Post κs a r₁ x → ahead.Post κs a r₂ x → r₁ ≡ r₂
ahead_one κs a r₁ r₂ x p q = p ∙ sym q

pub taken_one : (κs : Lfts 1) (a : _) (r₁ r₂ : _) (x : _) → taken.Post κs a r₁ x → taken.Post κs a r₂ x → r₁ ≡ r₂
taken_one κs a r₁ r₂ x p q = p ∙ sym q

pub refusal_one : (κs : Lfts 0) (a : _) (r₁ r₂ : _) (x : _) → refusal.Post κs a r₁ x → refusal.Post κs a r₂ x → r₁ ≡ r₂
refusal_one κs a r₁ r₂ x p q = p ∙ sym q
