-- No second answer satisfies a contract, as the check reads it from the source. Assumes nothing.
use mathlib.Core.Path.{◌≡◌, sym, ◌∙◌}
use Prim.Native.Nat.{ℕ}
use mathlib.Core.List.{List}
use contract.Lifetimes.{Lfts}
use Rattle.refusal.specs.Verdict.{Verdict}
use Rattle.refusal.proofs.Numbers.{told_one, told_one_of}
use Rattle.table.proofs.record.Reads as reads
use Rattle.table.proofs.rows.keep.Reads as keep
use Rattle.table.proofs.rows.judge.Reads as judge
use Rattle.table.proofs.rows.write.Reads as write

pub record_one : (κs : Lfts 1) (a : _) (r₁ r₂ : _) (x : _) → reads.Post κs a r₁ x → reads.Post κs a r₂ x → ◌≡◌ {A = List ℕ} r₁.now r₂.now
record_one κs a r₁ r₂ x p q = p ∙ sym q

-- of any rows of any records: each type with what is known of it, and with the contracts of its trait's methods
pub keep_one : (T U l m d e f g h i j : _) (κs : Lfts 3) (a : _) (r₁ r₂ : _) (x : _)
    → keep.Post T U l m d e f g h i j κs a r₁ x → keep.Post T U l m d e f g h i j κs a r₂ x → r₁ ≡ r₂
keep_one T U l m d e f g h i j κs a r₁ r₂ x p q = p ∙ sym q

pub judge_one : (R l d e f g h : _) (κs : Lfts 2) (a : _) (r₁ r₂ : _) (x : _)
    → judge.Post R l d e f g h κs a r₁ x → judge.Post R l d e f g h κs a r₂ x → r₁ ≡ r₂
judge_one R l d e f g h κs a r₁ r₂ x p q = told_one_of 0 r₁ r₂ (p ∙ sym q)

pub write_one : (T U l m d e f g h i j : _) (κs : Lfts 4) (a : _) (r₁ r₂ : _) (x y : _)
    → write.Post T U l m d e f g h i j κs a r₁ x → write.Post T U l m d e f g h i j κs a r₂ y
    → ◌≡◌ {A = Verdict × List ℕ} (r₁, x.1.0.now) (r₂, y.1.0.now)
write_one T U l m d e f g h i j κs a r₁ r₂ x y p q = told_one _ _ (p ∙ sym q)
