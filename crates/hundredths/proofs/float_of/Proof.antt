-- `hundredths::float_of` meets its contract: a pattern above the infinity's, its sign taken off, is a NaN's, and so is 0.0 / 0.0. Assumes nothing.
-- A walk: tried without, and as answers to its goals, and it did not close.
use mathlib.Core.Path.{◌≡◌, refl, sym, ◌∙◌, subst}
use mathlib.Core.Bool.{Bool, true, not, true≢false}
use Prim.Native.Nat.{ℕ, ◌%◌, ◌<◌}
use native.Mathlib.Omega.{arith}
use lib.Dec.{T}
use lib.Ieee.{Float, nan, inf, fin, is_nan, binary32, of_bits, div}
use lib.Ieee.Bits.{nan_bits_is, nan_bits_above}
use borrow.Author.Tests.{lt-ltb, le-ltb}
use borrow.Author.Rules.{rules}
use Rattle.hundredths.proofs.float_of.Statement.{statement}
use Rattle.hundredths.proofs.float_of.Tie as tie

is_nan_lem : (x : Float) → is_nan x ≡ true → nan ≡ x
unfolding is_nan
is_nan_lem nan h = refl
is_nan_lem (inf s) h = absurd (true≢false (sym h))
is_nan_lem (fin s m e) h = absurd (true≢false (sym h))

float-from-bits-result : tie.Need-float_from_bits-result
float-from-bits-result c =
    let b = c.args.bits in
    subst (λ (t : Bool). T (not t)) (sym (nan_bits_above binary32 b ∙ le-ltb 0x7f80_0000 (b % 0x8000_0000) (omega arith))) tt

made : (b : ℕ) → 0x7f80_0000 < b % 0x8000_0000 → nan ≡ of_bits binary32 b
made b h = is_nan_lem (of_bits binary32 b) (sym (nan_bits_is binary32 b) ∙ nan_bits_above binary32 b ∙ lt-ltb 0x7f80_0000 (b % 0x8000_0000) h)

pub float_of_spec : {M : Type 1} → statement M
unfolding of_bits div
float_of_spec = tie.close (tie.spec float-from-bits-result (λ c. made c.args.bits (omega arith)) (λ c. search rules))
