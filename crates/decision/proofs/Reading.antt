-- What each step of the reader finds, of the decision that the bytes stand for. Assumes nothing.
use mathlib.Core.Path.{◌≡◌, ap, ◌∙◌}
use mathlib.Core.Bool.{Bool, false, not}
use mathlib.Core.List.{List}
use Prim.Native.Nat.{ℕ}
use native.Mathlib.Omega.{arith}
use lib.Dec.{eqb}
use lib.ListN.{length, get_or}
use borrow.Author.Tests.{eqb-true, not-false}
use Rattle.bits.specs.Bytes.{fields_in}
use Rattle.bits.specs.Places.{field_at, fields_from}
use Rattle.bits.proofs.Places.{fields_from_lem}
use Rattle.record.specs.Record.{wrong_length}
use Rattle.decision.specs.declared.Decision.{Decision}
use Rattle.decision.specs.Decision.{size, widths, of_fields, decision_in, is_mark, wrong_mark, out_of_range}

module _ (s : List ℕ) (right : wrong_length size s ≡ false) where
  -- the fields that are read are those of the record
  fields_read : fields_from 0 widths s ≡ fields_in widths s
  unfolding wrong_length
  fields_read = fields_from_lem 0 widths s tt (omega (arith, eqb-true (length s) size (not-false (eqb (length s) size) right)))

  pub mark_is : (m : ℕ) → m ≡ field_at s 0 8 → not (is_mark m) ≡ wrong_mark (fields_in widths s)
  unfolding wrong_mark
  mark_is m e = ap (λ (x : ℕ). not (is_mark x)) e ∙ ap (λ (fs : List ℕ). not (is_mark (get_or fs 0 0))) fields_read

  pub decision_is : (d : Decision) → d ≡ of_fields (fields_from 0 widths s) → d ≡ decision_in s
  unfolding decision_in
  decision_is d e = e ∙ ap of_fields fields_read

  pub range_is : (d : Decision) → d ≡ of_fields (fields_from 0 widths s) → (b : Bool) → b ≡ out_of_range d → b ≡ out_of_range (decision_in s)
  range_is d e b r = r ∙ ap out_of_range (decision_is d e)
