-- Signed words of 64 bits, beside the laws of `whole`: what a call returned, a multiple by a natural number, `-x`. Assumes nothing.
use mathlib.Core.Path.{◌≡◌, ◌∙◌}
use Prim.Native.Nat.{ℕ, ◌*◌, ◌^◌, ◌<◌}
use native.Mathlib.Omega.{arith}
use lib.IntN.{ℤ, pos, nat_abs, neg_ℤ, ◌-ℤ◌, ◌*ℤ◌}
use mir.Syntax.{w64}
use mir.Val.{SFits, to_z, of_z}
use mir.Facts.{to_z-of_z}
use Rattle.whole.proofs.Parts.{parts_eq, sub_parts, neg_up, neg_dn}
use Rattle.whole.proofs.Size.{abs_neg, abs_times, fits_abs}
use Rattle.whole.proofs.Words.{Holds, nat_holds, op_fits, op_holds}

-- what a call returned, by what it ensures
pub told : {r z : ℤ} → SFits w64 r → r ≡ z → Holds w64 (of_z w64 r) z
told f e = record { reads = to_z-of_z f ∙ e }

module _ (k : ℕ) {n : ℕ} {z : ℤ} (h : Holds w64 n z) (small : k < 2 ^ 63) (fit : k * nat_abs z < 2 ^ 63) where
  multiple : SFits w64 (pos k *ℤ z)
  multiple = fits_abs (omega (arith, abs_times k z))

  pub times_fits : SFits w64 (to_z w64 k *ℤ to_z w64 n)
  times_fits = op_fits ◌*ℤ◌ (nat_holds small) h multiple

  pub times_holds : Holds w64 (of_z w64 (to_z w64 k *ℤ to_z w64 n)) (pos k *ℤ z)
  times_holds = op_holds ◌*ℤ◌ (nat_holds small) h multiple

minus : (z : ℤ) → pos 0 -ℤ z ≡ neg_ℤ z
minus z = parts_eq (pos 0 -ℤ z) (neg_ℤ z) (omega (arith, sub_parts (pos 0) z, neg_up z, neg_dn z))

module _ {n : ℕ} {z : ℤ} (h : Holds w64 n z) (fit : nat_abs z < 2 ^ 63) where
  none : Holds w64 0 (pos 0)
  none = nat_holds (omega arith)

  turned : SFits w64 (pos 0 -ℤ z)
  turned = rw (minus z) (fits_abs (omega (arith, abs_neg z)))

  pub neg_fits : SFits w64 (pos 0 -ℤ to_z w64 n)
  neg_fits = op_fits ◌-ℤ◌ none h turned

  pub neg_holds : Holds w64 (of_z w64 (pos 0 -ℤ to_z w64 n)) (neg_ℤ z)
  neg_holds = record { reads = (op_holds ◌-ℤ◌ none h turned).reads ∙ minus z }
