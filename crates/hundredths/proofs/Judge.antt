-- Two float comparisons, with 0.0 and with the limit, judge a reading: both hold exactly where it is not out of range. Assumes nothing.
use mathlib.Core.Path.{◌≡◌, refl, ap, ◌∙◌}
use mathlib.Core.Logic.{inl, inr}
use mathlib.Core.Bool.{Bool, true, false, not, ◌&&◌, ◌||◌}
use Prim.Native.Nat.{ℕ, zero, suc, ◌*◌, ◌^◌, ◌<◌, zero-le}
use native.Mathlib.Nat.{zero-add, mul-one, zero-mul, mul-pos, zero-lt-suc, ne_of_lt, eq-or-lt_of_le}
use native.Mathlib.Omega.{arith}
use lib.IntN.{pos}
use lib.Dec.{ltb, eqb}
use lib.Ieee.{Float, nan, inf, fin, up, down, lt, eq, le, is_nan, of_bits}
use lib.Ieee.Fits.{up_pos}
use borrow.Author.Tests.{ltb-true, ltb-false, lt-ltb, le-ltb, eq-eqb, ne_eqb}
use Rattle.hundredths.specs.InRange.{in_range}
use Rattle.hundredths.specs.Reading.{is_bad}

-- `<=`, as the float comparison says it of two sizes
not_above : (a b : ℕ) → (ltb a b || (eqb a b && true)) ≡ not (ltb b a)
not_above a b = go (ltb b a) refl
  where
    go : (t : Bool) → ltb b a ≡ t → (ltb a b || (eqb a b && true)) ≡ not t
    go true h =
        let l : b < a = ltb-true b a h in
        simp (le-ltb a b (omega arith), ne_eqb a b (λ (e : a ≡ b). omega arith))
    go false h = elim (eq-or-lt_of_le (ltb-false b a h)) [
      | inl e ↦ simp (le-ltb a b (omega arith), eq-eqb a b e)
      | inr l ↦ simp (lt-ltb a b l)
    ]

-- the limit's float is M * 2 ^ K
pub judges : (limit M K : ℕ) → M * 2 ^ K ≡ limit → (x : Float) → in_range x (fin false M (pos K)) ≡ not (is_bad limit x)
unfolding of_bits le lt eq is_bad is_nan
judges limit M K is nan = refl
judges limit M K is (inf true) = refl
judges limit M K is (inf false) = refl
judges limit M K is (fin false m e) = simp (not_above, mul-one, zero-mul, is, le-ltb (m * up e) 0 zero-le)
judges limit M K is (fin true zero e) =
    let none = le-ltb (limit * down e) 0 zero-le in
    simp (mul-one, zero-mul, zero-add, is, none) (not_above 0 (limit * down e) ∙ ap not none)
judges limit M K is (fin true (suc m) e) =
    let some = mul-pos (zero-lt-suc m) (up_pos e) in
    simp (mul-one, zero-mul, ne_eqb 0 (suc m * up e) (ne_of_lt some), lt-ltb 0 (suc m * up e) some)
