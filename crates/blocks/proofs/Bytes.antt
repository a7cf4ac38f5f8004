-- Blocks as bytes: where each one is. Assumes nothing.
use mathlib.Core.Path.{◌≡◌, refl, sym, ap, subst, ◌∙◌}
use mathlib.Core.Bool.{Bool, true, false, cond}
use mathlib.Core.List.{List, [], ◌∷◌, ◌++◌, append-nil}
use Prim.Native.Nat.{ℕ, zero, suc, ◌*◌, ◌/◌, ◌^◌, ◌≤◌, ◌<◌, min}
use native.Mathlib.Nat.{mul-div_cancel_left}
use native.Mathlib.Omega.{arith}
use lib.ListN.{length, drop, get_or}
use lib.Seq.{take_all}
use borrow.Author.Tests.{ltb-true, lt-ltb, le-ltb}
use lib.Dec.{ltb}
use Rattle.bits.specs.Fields.{Fit}
use Rattle.bits.specs.Bytes.{Bytes, num, fields_in, bytes_from}
use Rattle.bits.specs.Tables.{part, up_to}
use Rattle.bits.proofs.Bytes.{num-lt, fields_of_bytes, bytes_of_fields, bytes_take, bytes_drop}
use Rattle.bits.proofs.UpTo.{filled, filled_up}
use Rattle.refusal.specs.declared.Refusal.TheVariants.{BrokenBlocks}
use Rattle.table.specs.Table as table
use Rattle.table.specs.Table.{Table, part_at}
use Rattle.table.proofs.Records.{length_part}
use Rattle.table.proofs.Writing as writing
use Rattle.blocks.specs.declared.Blocks.{Blocks}
use Rattle.blocks.specs.Blocks.{size, most, widths, count, fields_at, fields_of, bytes_to, bytes_of, lay_of}
use Rattle.blocks.specs.Steps.{blocks_of}

-- ---- from bytes

part_small : (x : List ℕ) → Bytes x → length x ≡ size → num x < 2 ^ 32
part_small x b e = num-lt size x b e

-- the number that the bytes of a block are
pub word_small : (s : List ℕ) (k : ℕ) → Bytes s → num (part_at size s k) < 2 ^ 32
unfolding part_at
word_small s k b = by (ltb k (count s)) refl
  where
    by : (x : Bool) → ltb k (count s) ≡ x → num (cond x (part size s k) []) < 2 ^ 32
    by true e = part_small (part size s k) (bytes_take size (drop (size * k) s) (bytes_drop (size * k) s b)) (length_part size s k (omega arith) (ltb-true k (count s) e))
    by false e = omega arith

pub fields_held : (s : List ℕ) (k : ℕ) → k < count s → fields_at s k ≡ fields_in widths (part size s k)
unfolding part_at
fields_held s k h = ap (λ (x : Bool). fields_in widths (cond x (part size s k) [])) (lt-ltb k (count s) h)

-- past the last whole block, zeros
pub fields_past : (s : List ℕ) (k : ℕ) → count s ≤ k → fields_at s k ≡ 0 ∷ 0 ∷ 0 ∷ []
unfolding part_at
fields_past s k h = ap (λ (x : Bool). fields_in widths (cond x (part size s k) [])) (le-ltb k (count s) h)

-- ---- to bytes

-- blocks as the records of a table; of the table only where its records are is used
layout : Table (List ℕ)
layout = record {
  size = size;
  fewest = 0;
  most = most;
  widths = widths;
  fields_of = λ fs. fs;
  of_fields = λ fs. fs;
  clean = λ fs. true;
  in_range = λ fs. true;
  key = λ fs. 0;
  ends = λ fs. true;
  broken = BrokenBlocks;
}

module _ (b : Blocks) where
  as_records : (n : ℕ) → bytes_to b n ≡ table.bytes_of layout n (fields_of b)
  unfolding bytes_to table.bytes_of layout
  as_records zero = refl
  as_records (suc n) = ap (λ (s : List ℕ). s ++ bytes_from size widths (fields_of b n)) (as_records n)

  pub length-bytes_to : (n : ℕ) → length (bytes_to b n) ≡ size * n
  unfolding layout
  length-bytes_to n = ap length (as_records n) ∙ writing.length-bytes_of layout (fields_of b) n

  pub length_bytes : length (bytes_of b) ≡ size * b.count
  unfolding bytes_of
  length_bytes = length-bytes_to b.count

  pub count_bytes : count (bytes_of b) ≡ b.count
  count_bytes = ap (λ (n : ℕ). n / size) length_bytes ∙ mul-div_cancel_left b.count (omega arith)

  -- block k stands in place k
  pub fields_of_lem : (k : ℕ) → k < b.count → Fit widths (fields_of b k) → fields_at (bytes_of b) k ≡ fields_of b k
  unfolding bytes_of layout
  fields_of_lem k h f =
      fields_held (bytes_of b) k (subst (λ (n : ℕ). k < n) (sym count_bytes) h)
      ∙ ap (fields_in widths)
      (ap (λ (s : List ℕ). part size s k) (as_records b.count ∙ sym (append-nil _))
      ∙ writing.part_of_bytes layout (fields_of b) b.count k [] h)
      ∙ fields_of_bytes size widths refl (fields_of b k) f

  -- blocks whose fields are those of bytes are these bytes
  pub bytes_are : (s : List ℕ) → Bytes s → length s ≡ size * b.count → ((k : ℕ) → k < b.count → fields_of b k ≡ fields_at s k) → bytes_of b ≡ s
  unfolding bytes_of layout
  bytes_are s by e are =
      as_records b.count
      ∙ writing.bytes_of_parts layout (fields_of b) b.count s one
      ∙ take_all (size * b.count) s (omega arith)
    where
      one : (k : ℕ) → k < b.count → bytes_from size widths (fields_of b k) ≡ part size s k
      one k h =
          let m : k < count s = subst (λ (n : ℕ). k < n) (sym (ap (λ (n : ℕ). n / size) e ∙ mul-div_cancel_left b.count (omega arith))) h in
          ap (bytes_from size widths) (are k h ∙ fields_held s k m)
          ∙ bytes_of_fields size widths refl (part size s k) (bytes_take size (drop (size * k) s) (bytes_drop (size * k) s by)) (length_part size s k (omega arith) m)

-- ---- the arrays that bytes fill

-- field j of each block
abbrev pub column : List ℕ → ℕ → ℕ → ℕ
column s j k = get_or (fields_at s k) j 0

module _ (s : List ℕ) (n : ℕ) (e : n ≡ min (count s) most) where
  -- past the last block an array is as it began
  full : (f : ℕ → ℕ) → ((k : ℕ) → count s ≤ k → f k ≡ 0) → (xs : List ℕ) → xs ≡ filled f 0 most n → xs ≡ up_to most f
  full f past xs h = h ∙ filled_up f 0 most n (omega arith) (λ i a b. past i (omega arith))

  pub columns_laid : (lengths weights : List ℕ) → lengths ≡ filled (column s 0) 0 most n → weights ≡ filled (column s 1) 0 most n → blocks_of n lengths weights ≡ lay_of s
  unfolding lay_of
  columns_laid lengths weights l w =
      rw (
        e,
        full (column s 0) (λ k h. ap (λ (fs : List ℕ). get_or fs 0 0) (fields_past s k h)) lengths l,
        full (column s 1) (λ k h. ap (λ (fs : List ℕ). get_or fs 1 0) (fields_past s k h)) weights w,
      )
