-- Signed words of code. A word is kept as its bits, a natural number, which an operation reads by `to_z` and writes by `of_z`.
-- `Holds` says what number it stands for, and the laws follow the code: for `x as i64 - y as i64`, `op_holds ◌-ℤ◌ (nat_holds h) (nat_holds k) fit`.
-- Assumes nothing.
use mathlib.Core.Path.{◌≡◌, sym, ◌∙◌, subst}
use Prim.Native.Nat.{ℕ, ◌^◌, ◌<◌}
use native.Mathlib.Omega.{arith}
use lib.Dec.{T}
use lib.IntN.{ℤ, pos, nat_abs}
use lib.Signed.{non_neg, yes_non_neg}
use mir.Syntax.{Width}
use mir.Val.{Fits, SFits, bits, hbits, to_z, of_z}
use mir.Facts.{to_z-of_z, to_z_pos}
use Rattle.whole.specs.Floor.{cut}
use Rattle.whole.proofs.Parts.{AtMost, dn_mono}
use Rattle.whole.proofs.Order.{parts_le}
use Rattle.whole.proofs.Size.{abs_parts}

-- the word n stands for z
pub record Holds (w : Width) (n : ℕ) (z : ℤ) : Type 0 where
  pub reads : to_z w n ≡ z

-- a natural number, as a cast leaves it
pub nat_holds : {w : Width} {n : ℕ} → n < 2 ^ hbits w → Holds w n (pos n)
nat_holds {w} h = record { reads = to_z_pos w h }

-- a parameter, `fit_holds c.fits.x`; what a call returned, `fit_holds (sfits_of c.g.ok)`
pub fit_holds : {w : Width} {z : ℤ} → SFits w z → Holds w (of_z w z) z
fit_holds f = record { reads = to_z-of_z f }

-- two words in an operation, a test or a call: `both lt_z h k`
pub both : {w : Width} {X : Type 0} (f : ℤ → ℤ → X) {m n : ℕ} {a b : ℤ} → Holds w m a → Holds w n b → f (to_z w m) (to_z w n) ≡ f a b
both f h k = rw (h.reads, k.reads)

-- an operation on two words: that its result fits, and what it is
module _ {w : Width} (f : ℤ → ℤ → ℤ) {m n : ℕ} {a b : ℤ} (h : Holds w m a) (k : Holds w n b) (fit : SFits w (f a b)) where
  pub op_fits : SFits w (f (to_z w m) (to_z w n))
  op_fits = subst (SFits w) (sym (both f h k)) fit

  pub op_holds : Holds w (of_z w (f (to_z w m) (to_z w n))) (f a b)
  op_holds = record { reads = to_z-of_z op_fits ∙ both f h k }

-- a word cast to another width
module _ {w w' : Width} {n : ℕ} {z : ℤ} (h : Holds w n z) (fit : SFits w' z) where
  pub cast_fits : SFits w' (to_z w n)
  cast_fits = subst (SFits w') (sym h.reads) fit

  pub cast_holds : Holds w' (of_z w' (to_z w n)) z
  cast_holds = record { reads = to_z-of_z cast_fits ∙ h.reads }

-- a word that is not below zero, cast to an unsigned width: what `cut` leaves of it
module _ {w : Width} {n : ℕ} {z : ℤ} (h : Holds w n z) (some : AtMost (pos 0) z) where
  pub unsigned_is : nat_abs (to_z w n) ≡ cut z
  unsigned_is = rw h.reads (omega (arith, abs_parts z, dn_mono (pos 0) z some))

  pub unsigned_fits : {w' : Width} → cut z < 2 ^ bits w' → T (non_neg (to_z w n)) × Fits w' (nat_abs (to_z w n))
  unsigned_fits l = (rw h.reads (yes_non_neg (parts_le (pos 0) z some)), rw unsigned_is (record { fits = l }))
