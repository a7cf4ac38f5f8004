-- Where the records of a table are. Assumes nothing.
use mathlib.Core.Path.{◌≡◌, refl, ap, ap₂, ◌∙◌}
use mathlib.Core.Bool.{Bool, true, false, cond}
use mathlib.Core.List.{List, [], ◌∷◌}
use Prim.Native.Nat.{ℕ, ◌+◌, ◌*◌, ◌/◌, ◌%◌, ◌^◌, ◌≤◌, ◌<◌}
use native.Mathlib.Nat.{le-div_iff_mul-le, zero-div, zero-mod}
use native.Mathlib.Omega.{arith}
use lib.ListN.{length, length-take, length-drop}
use lib.Dec.{ltb}
use borrow.Author.Tests.{ltb-true, le-ltb}
use Rattle.bits.specs.Fields.{total, split}
use Rattle.bits.specs.Bytes.{fields_in}
use Rattle.bits.specs.Places.{lies, behind, field_at, fields_from}
use Rattle.bits.specs.Tables.{part}
use Rattle.bits.proofs.Places.{fields_from_lem}
use Rattle.table.specs.Facts.{Facts}
use Rattle.table.specs.Table.{Table, part_at, count, fields_at, record_at}

-- record k of w bytes lies in s
pub inside : (w : ℕ) (s : List ℕ) (k : ℕ) → 0 < w → k < length s / w → w * k + w ≤ length s
inside w s k h l = omega (arith, (le-div_iff_mul-le {k = w} {x = k + 1} {y = length s} h).0 (omega arith))

pub length_part : (w : ℕ) (s : List ℕ) (k : ℕ) → 0 < w → k < length s / w → length (part w s k) ≡ w
length_part w s k h l = simp (length-take, length-drop) (omega (arith, inside w s k h l))

-- where there are no bytes, fields by their places are zero
no_fields : (first : ℕ) (ws : List ℕ) → fields_from first ws [] ≡ fields_in ws []
unfolding field_at
no_fields first [] = refl
no_fields first (w ∷ ws) = ap₂ (λ (x : ℕ) (l : List ℕ). x ∷ l) (by (lies [] first w)) (no_fields (first + w) ws)
  where
    by : (b : Bool) → cond b (0 / 2 ^ behind [] first w % 2 ^ w) 0 ≡ 0 / 2 ^ total ws % 2 ^ w
    by true = rw (zero-div (2 ^ behind [] first w), zero-div (2 ^ total ws))
    by false = rw (zero-div (2 ^ total ws), zero-mod (2 ^ w))

-- the fields of record k by their places are those of `split`
pub fields_at_lem : {A : Type 0} (t : Table A) → Facts t → (s : List ℕ) (k : ℕ) (x : List ℕ) → x ≡ part_at t.size s k → fields_from 0 t.widths x ≡ fields_at t s k
unfolding part_at
fields_at_lem t facts s k x is = ap (fields_from 0 t.widths) is ∙ by (ltb k (count t s)) refl
  where
    by : (b : Bool) → ltb k (count t s) ≡ b → fields_from 0 t.widths (cond b (part t.size s k) []) ≡ fields_in t.widths (cond b (part t.size s k) [])
    by true e =
        fields_from_lem 0 t.widths (part t.size s k) facts.narrow
        (omega (arith, facts.whole, length_part t.size s k facts.some (ltb-true k (count t s) e)))
    by false e = no_fields 0 t.widths

-- past the last whole record, a record of zeros
pub past_last : {A : Type 0} (t : Table A) (s : List ℕ) (k : ℕ) → count t s ≤ k → record_at t s k ≡ t.of_fields (split t.widths 0)
unfolding record_at part_at
past_last t s k h = ap (λ (b : Bool). t.of_fields (fields_in t.widths (cond b (part t.size s k) []))) (le-ltb k (count t s) h)
