-- The round trip of the blocks' records. Assumes nothing.
use mathlib.Core.Path.{◌≡◌, refl, sym, ap, ap₂, ◌∙◌}
use mathlib.Core.Bool.{Bool, true, false, not, ◌&&◌}
use mathlib.Core.List.{List}
use Prim.Native.Nat.{ℕ, zero, suc, ◌*◌, ◌%◌, ◌≤◌, ◌<◌, ◌^◌, min}
use native.Mathlib.Nat.{div-add-mod, mul-mod_right}
use native.Mathlib.Omega.{arith}
use lib.Dec.{leb, ltb, eqb}
use lib.ListN.{length, get_or}
use lib.Seq.{ext_get_or}
use borrow.Author.Tests.{leb-true, ltb-true, ltb-false, eqb-true, le-leb, eq-eqb, not-false}
use Rattle.bits.specs.Fields.{Fit}
use Rattle.bits.specs.Bytes.{Bytes}
use Rattle.bits.specs.Tables.{up_to}
use Rattle.bits.proofs.Ranges.{and-true_left, and-true_right}
use Rattle.bits.proofs.UpTo.{length-up_to, get_or_up_to}
use Rattle.table.specs.Table.{every}
use Rattle.table.proofs.Judging.{every_at}
use Rattle.blocks.specs.declared.Blocks.{Blocks}
use Rattle.blocks.specs.Blocks.{size, most, widths, length_of, weight_of, is_sound, count, fields_at, lay_of, spare_zero, is_laid_out, is_broken, fields_of, bytes_of}
use Rattle.blocks.specs.Steps.{blocks_of}
use Rattle.blocks.specs.RoundTrip.{WrittenReadsBack, AcceptedWritesBack}
use Rattle.blocks.proofs.Sums.{length_most, weight_most}
use Rattle.blocks.proofs.Sound.{sound, sound_places, sound_few, past_zero}
use Rattle.blocks.proofs.Bytes.{fields_past, length_bytes, count_bytes, fields_of_lem, bytes_are}

every_all : (n : ℕ) (f : ℕ → Bool) → ((k : ℕ) → k < n → f k ≡ true) → every n f ≡ true
every_all zero f h = refl
every_all (suc n) f h = ap₂ ◌&&◌ (every_all n f (λ k l. h k (omega arith))) (h n (omega arith))

-- ---- what is accepted

module _ (s : List ℕ) (h : is_laid_out s ≡ true) where
  front : eqb (length s % size) 0 && leb (count s) most ≡ true
  unfolding is_laid_out
  front = and-true_left (eqb (length s % size) 0 && leb (count s) most) _ h

  pub laid_few : count s ≤ most
  laid_few = leb-true _ _ (and-true_right (eqb (length s % size) 0) _ front)

  pub laid_whole : length s ≡ size * count s
  laid_whole =
      let e = eqb-true (length s % size) 0 (and-true_left (eqb (length s % size) 0) (leb (count s) most) front) in
      omega (arith, e, div-add-mod (length s) size)

  pub laid_count : (lay_of s).count ≡ count s
  unfolding lay_of
  laid_count = omega (arith, laid_few)

  laid_fields : (k : ℕ) → k < (lay_of s).count → fields_of (lay_of s) k ≡ fields_at s k
  unfolding is_laid_out lay_of spare_zero
  laid_fields k l =
      let m : k < most = omega arith in
      let n : k < count s = omega arith in
      let z = eqb-true (get_or (fields_at s k) 2 0) 0 (every_at (count s) k (spare_zero s) n (and-true_right (eqb (length s % size) 0 && leb (count s) most) _ h)) in
      rw (get_or_up_to (λ i. get_or (fields_at s i) 0 0) most k 0 m, get_or_up_to (λ i. get_or (fields_at s i) 1 0) most k 0 m, z)

  -- as bytes they are what they were
  pub laid_back : Bytes s → bytes_of (lay_of s) ≡ s
  laid_back b = bytes_are (lay_of s) s b (laid_whole ∙ ap (λ (n : ℕ). size * n) (sym laid_count)) laid_fields

-- what is not broken is laid out and sound
pub not_broken : (s : List ℕ) (l w : ℕ) → is_broken s l w ≡ false → (is_laid_out s ≡ true) × (is_sound (lay_of s) l w ≡ true)
unfolding is_broken
not_broken s l w h =
    let both = not-false (is_laid_out s && is_sound (lay_of s) l w) h in
    (and-true_left (is_laid_out s) _ both, and-true_right (is_laid_out s) _ both)

pub accepted_writes_back : AcceptedWritesBack
unfolding AcceptedWritesBack
accepted_writes_back s l w b h = laid_back s (not_broken s l w h).0 b

-- ---- what is written

module _ (b : Blocks) (l w : ℕ) (small_length : l < 2 ^ 15) (small_weight : w < 2 ^ 15) (h : is_sound b l w ≡ true) where
  fits : (k : ℕ) → k < b.count → Fit widths (fields_of b k)
  fits k m =
      let s = sound b l w h in
      omega (arith, length_most b l w s k m, weight_most b l w s k m)

  -- place k of the bytes, whether of a block or past the last
  place : (k : ℕ) → (get_or (fields_at (bytes_of b) k) 0 0 ≡ length_of b k) × (get_or (fields_at (bytes_of b) k) 1 0 ≡ weight_of b k) × (get_or (fields_at (bytes_of b) k) 2 0 ≡ 0)
  place k = by (ltb k b.count) refl
    where
      by : (x : Bool) → ltb k b.count ≡ x
          → (get_or (fields_at (bytes_of b) k) 0 0 ≡ length_of b k) × (get_or (fields_at (bytes_of b) k) 1 0 ≡ weight_of b k) × (get_or (fields_at (bytes_of b) k) 2 0 ≡ 0)
      by true e =
          let m = ltb-true k b.count e in
          let f = fields_of_lem b k m (fits k m) in
          (ap (λ (fs : List ℕ). get_or fs 0 0) f, ap (λ (fs : List ℕ). get_or fs 1 0) f, ap (λ (fs : List ℕ). get_or fs 2 0) f)
      by false e =
          let m : b.count ≤ k = ltb-false k b.count e in
          let f = fields_past (bytes_of b) k (omega (arith, m, count_bytes b)) in
          let z = past_zero b l w h k m in (
            ap (λ (fs : List ℕ). get_or fs 0 0) f ∙ sym z.0,
            ap (λ (fs : List ℕ). get_or fs 1 0) f ∙ sym z.1,
            ap (λ (fs : List ℕ). get_or fs 2 0) f,
          )

  pub bytes_laid_out : is_laid_out (bytes_of b) ≡ true
  unfolding is_laid_out spare_zero
  bytes_laid_out =
      let s = bytes_of b in
      ap₂ ◌&&◌
      (ap₂ ◌&&◌
      (eq-eqb _ 0 (ap (λ (n : ℕ). n % size) (length_bytes b) ∙ mul-mod_right size b.count))
      (le-leb (count s) most (omega (arith, count_bytes b, sound_few b l w h))))
      (every_all (count s) (spare_zero s) (λ k m. eq-eqb _ 0 (place k).2))

  column : (f : ℕ → ℕ) (xs : List ℕ) → length xs ≡ most → ((k : ℕ) → f k ≡ get_or xs k 0) → up_to most f ≡ xs
  column f xs e same =
      ext_get_or 0 (up_to most f) xs (length-up_to f most ∙ sym e)
      (λ i m. get_or_up_to f most i 0 (omega (arith, m, length-up_to f most)) ∙ same i)

  pub bytes_lay : lay_of (bytes_of b) ≡ b
  unfolding lay_of
  bytes_lay =
      let s = bytes_of b in
      let n : min (count s) most ≡ b.count = omega (arith, count_bytes b, sound_few b l w h) in
      let places = sound_places b l w h in
      ap (λ (i : ℕ). blocks_of i (up_to most (λ k. get_or (fields_at s k) 0 0)) (up_to most (λ k. get_or (fields_at s k) 1 0))) n
      ∙ ap₂ (λ (x y : List ℕ). blocks_of b.count x y)
      (column (λ k. get_or (fields_at s k) 0 0) b.lengths places.0 (λ k. (place k).0))
      (column (λ k. get_or (fields_at s k) 1 0) b.weights places.1 (λ k. (place k).1))

pub written_reads_back : WrittenReadsBack
unfolding WrittenReadsBack is_broken
written_reads_back b l w x y h =
    let same = bytes_lay b l w x y h in
    (ap not (ap₂ ◌&&◌ (bytes_laid_out b l w x y h) (ap (λ (c : Blocks). is_sound c l w) same ∙ h)), same)
