-- A consist as bytes: those before its blocks, and the blocks behind them. Assumes nothing.
use mathlib.Core.Path.{◌≡◌, refl, sym, ap, ap₂, ◌∙◌}
use Prim.Native.Nat.{ℕ, ◌+◌, ◌-◌, ◌*◌, ◌≤◌}
use native.Mathlib.Nat.{le_of_eq}
use native.Mathlib.Omega.{arith}
use mathlib.Core.Bool.{true}
use mathlib.Core.List.{List, ◌++◌, append-nil, append_assoc}
use lib.ListN.{length, length-append, length-drop, take, drop, take-append-drop, drop_of_length-le}
use lib.Seq.{take_at, take_all, drop_at, drop-drop, length-take-le}
use Rattle.bits.specs.Fields.{join, Fit}
use Rattle.bits.specs.Bytes.{eights, Bytes, fields_in}
use Rattle.bits.proofs.Fields.{length-split}
use Rattle.bits.proofs.Bytes.{length-eights, fields_of_bytes, bytes_of_fields, bytes_take, bytes_drop}
use Rattle.blocks.specs.Blocks as blocks
use Rattle.blocks.proofs.Sound as blocks_sound
use Rattle.blocks.proofs.Bytes as blocks_bytes
use Rattle.blocks.proofs.RoundTrip as blocks_trip
use Rattle.consist.specs.declared.Consist.{Consist}
use Rattle.consist.specs.Consist.{size, size_of, widths, fields_of, of_fields, with_blocks, alone, consist_in, front_of, bytes_of}

pub length_front : (c : Consist) → length (front_of c) ≡ size
unfolding front_of
length_front c = length-split (eights size) (join widths (fields_of c)) ∙ length-eights size

pub length_bytes : (c : Consist) → length (bytes_of c) ≡ size_of c
unfolding bytes_of
length_bytes c =
    length-append (front_of c) (blocks.bytes_of c.blocks) ∙ ap₂ ◌+◌ (length_front c) (blocks_bytes.length_bytes c.blocks)

-- without blocks these are all
pub bytes_alone : (c : Consist) → bytes_of (alone c) ≡ front_of c
unfolding bytes_of front_of blocks.bytes_of blocks.bytes_to blocks.none
bytes_alone c = append-nil (front_of c)

-- bytes with nothing behind them are a consist without blocks
pub in_front : (s : List ℕ) → length s ≡ size → consist_in s ≡ of_fields (fields_in widths s)
unfolding consist_in
in_front s e =
    ap₂ (λ (x y : List ℕ). with_blocks (of_fields (fields_in widths x)) (blocks.lay_of y)) (take_all size s (omega arith)) (drop_of_length-le s {i = size} (omega arith))
    ∙ ap (with_blocks (of_fields (fields_in widths s))) blocks_sound.laid_none

-- ---- there and back

-- the consist of a front and of what is behind it
module _ (c : Consist) (f : Fit widths (fields_of c)) where
  pub front_back : of_fields (fields_in widths (front_of c)) ≡ alone c
  unfolding front_of
  front_back = ap of_fields (fields_of_bytes size widths refl (fields_of c) f)

  pub consist_of : (s : List ℕ) → consist_in (front_of c ++ s) ≡ with_blocks c (blocks.lay_of s)
  unfolding consist_in
  consist_of s =
      ap₂ (λ (x y : List ℕ). with_blocks (of_fields (fields_in widths x)) (blocks.lay_of y))
      (take_at (front_of c) s size (length_front c))
      (drop_at (front_of c) s size (length_front c))
      ∙ ap (λ (x : Consist). with_blocks x (blocks.lay_of s)) front_back

module _ (s : List ℕ) (b : Bytes s) (long : size ≤ length s) where
  pub front_of_lem : front_of (consist_in s) ≡ take size s
  unfolding front_of consist_in
  front_of_lem = bytes_of_fields size widths refl (take size s) (bytes_take size s b) (length-take-le size s long)

  module _ (h : blocks.is_laid_out (drop size s) ≡ true) where
    pub bytes_back : bytes_of (consist_in s) ≡ s
    unfolding bytes_of consist_in
    bytes_back = ap₂ ◌++◌ front_of_lem (blocks_trip.laid_back (drop size s) h (bytes_drop size s b)) ∙ take-append-drop size s

    pub size_back : size_of (consist_in s) ≡ length s
    size_back = sym (length_bytes (consist_in s)) ∙ ap length bytes_back

-- ---- the writer

-- the front is put over what was lent, which keeps its length
pub length_kept : (c : Consist) (out o : List ℕ) → size ≤ length out → o ≡ front_of c ++ drop size out → length o ≡ length out
length_kept c out o room h =
    ap length h ∙ length-append (front_of c) (drop size out) ∙ omega (arith, length_front c, length-drop size out)

-- the blocks are put behind the front: out is what was lent, o what the front left of it, and zs what the blocks left of the part behind the front
pub written_all : (c : Consist) (out o zs : List ℕ) → o ≡ front_of c ++ drop size out → length o ≡ length out
    → zs ≡ blocks.bytes_of c.blocks ++ drop (blocks.size * c.blocks.count) (take (length o - size) (drop size o))
    → take size o ++ (zs ++ drop (length o - size) (drop size o)) ≡ bytes_of c ++ drop (length (bytes_of c)) out
unfolding bytes_of
written_all c out o zs h e z =
    let rest = drop size out in
    let m = length o - size in
    let n : length rest ≡ m = length-drop size out ∙ omega arith in
    let behind : drop size o ≡ rest = ap (drop size) h ∙ drop_at (front_of c) rest size (length_front c) in
    let those = blocks.bytes_of c.blocks in
    let i = blocks.size * c.blocks.count in
    let put : zs ≡ those ++ drop i rest = z ∙ ap (λ (x : List ℕ). those ++ drop i x) (ap (take m) behind ∙ take_all m rest (le_of_eq n)) in
    ap₂ ◌++◌
    (ap (take size) h ∙ take_at (front_of c) rest size (length_front c))
    (ap₂ ◌++◌ put (ap (drop m) behind ∙ drop_of_length-le rest (le_of_eq n)) ∙ append-nil _)
    ∙ sym (append_assoc (front_of c) those (drop i rest))
    ∙ ap (λ (x : List ℕ). bytes_of c ++ x) (drop-drop i size out ∙ ap (λ (k : ℕ). drop k out) (sym (length_bytes c)))
