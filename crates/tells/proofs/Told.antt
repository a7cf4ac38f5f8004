-- What is told by number: the number of a verdict, or of the lowest rule. Assumes nothing.
use mathlib.Core.Path.{◌≡◌, sym, ap, ◌∙◌}
use mathlib.Core.List.{List, ◌++◌}
use Prim.Native.Nat.{ℕ}
use lib.ListN.{length, drop}
use Rattle.std.specs.Prelude.{Result, Ok, Err}
use Rattle.tells.specs.Judged.{number_in}
use Rattle.refusal.specs.Number.{number_of, number_of_verdict, answer_of, told}
use Rattle.refusal.specs.Written.{written}
use Rattle.refusal.specs.declared.Refusal.{Refusal}
use Rattle.refusal.specs.Verdict.{Verdict, Accepted, Refused}

-- of an answer, where its verdict's is known
pub number_is : {A : Type 0} (fixed : A) (r : Result A Refusal) {n : ℕ} → number_of_verdict (answer_of fixed r).0 ≡ n → number_in r ≡ n
number_is fixed (Ok a) h = h
number_is fixed (Err r) h = h

-- of a verdict and what was lent, where they are told
pub told_in : {n : ℕ} {A : Type 0} {out : A} {x : ℕ × A} (v : Verdict) → n ≡ number_in v → told (v, out) ≡ x → (n, out) ≡ x
told_in {out = out} Accepted h e = ap (λ (m : ℕ). (m, out)) h ∙ e
told_in {out = out} (Refused r) h e = ap (λ (m : ℕ). (m, out)) h ∙ e

-- of what a verdict writes, by the verdict
pub told_refused : {n : ℕ} {v : Verdict} {r : Refusal} (bytes out : List ℕ) → n ≡ number_of r → v ≡ Refused r → (n, out) ≡ told (written v bytes out)
told_refused bytes out h e = ap (λ (m : ℕ). (m, out)) h ∙ sym (ap (λ (w : Verdict). told (written w bytes out)) e)

pub told_accepted : {v : Verdict} (bytes out : List ℕ) → v ≡ Accepted → (0, bytes ++ drop (length bytes) out) ≡ told (written v bytes out)
told_accepted bytes out e = sym (ap (λ (w : Verdict). told (written w bytes out)) e)
