-- Rounded up, n / b is (n - 1) / b + 1, and 0 where n is 0.
use mathlib.Core.Path.{◌≡◌, sym, ap, ◌∙◌}
use Prim.Native.Nat.{ℕ, ◌+◌, ◌-◌, ◌/◌, ◌^◌, ◌<◌}
use native.Mathlib.Nat.{div-eq_of_lt, add-div_right, div-le_self}
use native.Mathlib.Omega.{arith}
use lib.Pow.{pow_pos}
use borrow.Author.Rules.{rules}
use Rattle.whole.specs.Ceiling.{ceil_div}
use Rattle.hundredths.proofs.quotient.Goals as goal

up_none : (n b : ℕ) → 0 < b → n ≡ 0 → ceil_div n b ≡ 0
unfolding ceil_div
up_none n b h e = div-eq_of_lt (omega arith)

up_some : (n b : ℕ) → 0 < b → (n ≡ 0 → ⊥) → ceil_div n b ≡ (n - 1) / b + 1
unfolding ceil_div
up_some n b h some =
    let same : n + (b - 1) ≡ (n - 1) + b = omega arith in
    ap (λ (z : ℕ). z / b) same ∙ add-div_right (n - 1) h

pub overflow_add-result : goal.overflow_add-result
overflow_add-result c =
    let a = c.args in
    omega (arith, c.shifted-else-n-eq0.ensures, div-le_self (a.n - 1) (2 ^ a.places))

pub returns-in-Down : goal.returns-in-Down
returns-in-Down c = rw c.in-Down.is c.shifted.ensures

pub returns-then-n-eq0 : goal.returns-then-n-eq0
returns-then-n-eq0 c =
    let a = c.args in
    rw c.in-Up.is (sym (up_none a.n (2 ^ a.places) (pow_pos a.places) c.if-n-eq0.true))

pub returns-else-n-eq0 : goal.returns-else-n-eq0
returns-else-n-eq0 c =
    let a = c.args in
    rw c.in-Up.is
    (ap (λ (z : ℕ). z + 1) c.shifted-else-n-eq0.ensures ∙ sym (up_some a.n (2 ^ a.places) (pow_pos a.places) c.if-n-eq0.false))
