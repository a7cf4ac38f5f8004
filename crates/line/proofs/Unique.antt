-- No second answer satisfies a contract, as the check reads it from the source. Assumes nothing.
use mathlib.Core.Path.{◌≡◌, sym, ◌∙◌}
use Prim.Native.Nat.{ℕ}
use mathlib.Core.List.{List}
use contract.Lifetimes.{Lfts}
use Rattle.line.specs.Line.{lines_text}
use Rattle.line.proofs.Lines.of_sample.Reads as of_sample
use Rattle.line.proofs.Lines.put.Reads as put
use Rattle.line.proofs.LinesFromRefusal.from.Reads as of_refusal
use Rattle.line.proofs.put_refusal.Reads as put_refusal
use Rattle.line.proofs.put_sample.Reads as put_sample

pub of_refusal_one : (κs : Lfts 0) (a : _) (r₁ r₂ : _) (x : _) → of_refusal.Post κs a r₁ x → of_refusal.Post κs a r₂ x → lines_text r₁ ≡ lines_text r₂
of_refusal_one κs a r₁ r₂ x p q = p ∙ sym q

pub of_sample_one : (κs : Lfts 1) (a : _) (r₁ r₂ : _) (x : _) → of_sample.Post κs a r₁ x → of_sample.Post κs a r₂ x → lines_text r₁ ≡ lines_text r₂
of_sample_one κs a r₁ r₂ x p q = p ∙ sym q

pub put_lines_one : (κs : Lfts 1) (a : _) (r₁ r₂ : _) (x₁ x₂ : _) → put.Post κs a r₁ x₁ → put.Post κs a r₂ x₂
    → ◌≡◌ {A = ℕ × List ℕ} (r₁, x₁.1.0.now) (r₂, x₂.1.0.now)
put_lines_one κs a r₁ r₂ x₁ x₂ p q = p ∙ sym q

pub put_refusal_one : (κs : Lfts 1) (a : _) (r₁ r₂ : _) (x₁ x₂ : _) → put_refusal.Post κs a r₁ x₁ → put_refusal.Post κs a r₂ x₂
    → ◌≡◌ {A = ℕ × List ℕ} (r₁, x₁.1.0.now) (r₂, x₂.1.0.now)
put_refusal_one κs a r₁ r₂ x₁ x₂ p q = p ∙ sym q

pub put_sample_one : (κs : Lfts 2) (a : _) (r₁ r₂ : _) (x₁ x₂ : _) → put_sample.Post κs a r₁ x₁ → put_sample.Post κs a r₂ x₂
    → ◌≡◌ {A = ℕ × List ℕ} (r₁, x₁.1.1.0.now) (r₂, x₂.1.1.0.now)
put_sample_one κs a r₁ r₂ x₁ x₂ p q = p ∙ sym q
