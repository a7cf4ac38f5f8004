-- What is told of a writer that hands on another's number. Assumes nothing.
use mathlib.Core.Path.{◌≡◌, ap, ◌∙◌}
use mathlib.Core.List.{List}
use Prim.Native.Nat.{ℕ}

pub told_of : {n m : ℕ} {out : List ℕ} {answer : ℕ × List ℕ} → n ≡ m → (m, out) ≡ answer → (n, out) ≡ answer
told_of {out = out} h e = ap (λ (k : ℕ). (k, out)) h ∙ e
