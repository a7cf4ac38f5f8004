-- The round trip of the sample's record. Assumes nothing.
use mathlib.Core.Path.{◌≡◌, refl, sym, ap, ◌∙◌}
use Prim.Native.Nat.{ℕ, ◌^◌, ◌<◌}
use native.Mathlib.Omega.{arith}
use mathlib.Core.Bool.{Bool, true, false, not, ◌&&◌, ◌||◌}
use mathlib.Core.List.{List, [], ◌∷◌, ◌++◌}
use lib.ListN.{length, take, drop, get_or}
use lib.Dec.{eqb, lit<}
use lib.Ieee.{binary32, of_bits, to_bits}
use lib.Ieee.Bits.{of_bits-fits, of_bits-to_bits, to_bits-lt}
use borrow.Author.Tests.{eqb-true, eqb-false, le-ltb, not-false}
use Rattle.bits.specs.Fields.{split}
use Rattle.bits.specs.Bytes.{num, bytes_from}
use Rattle.bits.proofs.Fields.{split_fit}
use Rattle.bits.proofs.Bytes.{fields_of_bytes, bytes_of_fields}
use Rattle.bits.proofs.Ranges.{neither}
use Rattle.hundredths.specs.Reading.{most_speed, most_psi}
use Rattle.hundredths.proofs.Accepted.{bits_back}
use Rattle.record.specs.Record.{wrong_length}
use Rattle.refusal.specs.Lowest.{lowest}
use Rattle.refusal.specs.Written.{no_room, written}
use Rattle.refusal.specs.Verdict.{Verdict, Accepted}
use Rattle.refusal.proofs.Order.{accepted, written_accepted}
use Rattle.sample.specs.declared.Rear.TheVariants.{Present}
use Rattle.sample.specs.Sample.{size, mark, widths, present_bit, rear_bits, fields_of, lost_in, rear_of, of_fields, raw_in, bytes_of, other_mark, spare_set, lost_not_zero, wrong_mark, too_wide, bad_rear, bad_reading, read_sample, write_rules, write_sample}
use Rattle.laws.specs.SampleTrip.{WrittenReadsBack, AcceptedWritesBack}
use Rattle.sample.proofs.Answers.{right_length, fits, laid_narrow, each_good, write_is, LaidOut, layout_raw, read_is, read_inv}

-- ---- what is written reads back the same

-- a reading that is made of bits, whatever their number, has 32 of its own, and these make it again
module _ (n : ℕ) where
  made_lt : to_bits binary32 (of_bits binary32 n) < 2 ^ 32
  made_lt = to_bits-lt binary32 (of_bits binary32 n) (of_bits-fits binary32 n)

  made_again : of_bits binary32 (to_bits binary32 (of_bits binary32 n)) ≡ of_bits binary32 n
  made_again = of_bits-to_bits binary32 (of_bits binary32 n) (of_bits-fits binary32 n)

  -- a rear alike; and when lost, it has no bits
  rear_made : (lost : Bool)
      → (rear_bits (rear_of lost n) < 2 ^ 32)
      × (rear_of (eqb (present_bit (rear_of lost n)) 0) (rear_bits (rear_of lost n)) ≡ rear_of lost n)
      × ((eqb (present_bit (rear_of lost n)) 0 && not (eqb (rear_bits (rear_of lost n)) 0)) ≡ false)
  rear_made true = (lit< tt, refl, refl)
  rear_made false = (made_lt, ap Present made_again, refl)

-- the bytes of what is made of fields stand for it
bytes_laid_out : (fs : List ℕ) → too_wide (of_fields fs) ≡ false → LaidOut (bytes_of (of_fields fs)) (of_fields fs)
unfolding bytes_of raw_in wrong_length wrong_mark
bytes_laid_out fs w =
    let raw = of_fields fs in
    let r = rear_made (get_or fs 7 0) (lost_in fs) in
    let f = fields_of_bytes size widths refl (fields_of raw) (fits raw w (made_lt (get_or fs 5 0), (made_lt (get_or fs 6 0), (r.0, tt)))) in
    let again : of_fields (fields_of raw) ≡ raw = λ i. record { time = raw.time; head = raw.head; speed = made_again (get_or fs 5 0) i; front = made_again (get_or fs 6 0) i; rear = r.1 i } in
    record { length = refl; mark = ap wrong_mark f ∙ r.2; raw_is = sym (ap of_fields f ∙ again) }

pub written_reads_back : WrittenReadsBack
unfolding WrittenReadsBack bytes_of write_sample
written_reads_back fs out h =
    let raw = of_fields fs in
    let v = written_accepted (lowest (write_rules raw out)) (bytes_of raw) out h in
    let w = accepted _ _ _ v in
    ap (λ (u : Verdict). read_sample (take size (written u (bytes_of raw) out).1)) v
    ∙ read_is (bytes_of raw) raw false (layout_raw (bytes_of raw) raw (bytes_laid_out fs w.0)) (accepted _ _ _ w.1).0

-- ---- what is accepted would be written with the same bits

-- the rear's bit and bits
same_rear : (p r : ℕ) → p < 2 → r < 2 ^ 32 → (eqb p 0 && not (eqb r 0)) ≡ false → bad_rear (rear_of (eqb p 0) r) ≡ false
    → (present_bit (rear_of (eqb p 0) r) ≡ p) × (rear_bits (rear_of (eqb p 0) r) ≡ r)
same_rear p r hp hr m g = go (eqb p 0) refl m g
  where
    go : (b : Bool) → eqb p 0 ≡ b → (b && not (eqb r 0)) ≡ false → bad_rear (rear_of b r) ≡ false → (present_bit (rear_of b r) ≡ p) × (rear_bits (rear_of b r) ≡ r)
    go true e m g = (sym (eqb-true p 0 e), sym (eqb-true r 0 (not-false (eqb r 0) m)))
    go false e m g = let n = eqb-false p 0 e in (omega arith, bits_back most_psi r hr g)

-- the fields of a number that has the mark and good readings
same_fields : (n : ℕ) → wrong_mark (split widths n) ≡ false → bad_reading (of_fields (split widths n)) ≡ false
    → fields_of (of_fields (split widths n)) ≡ split widths n
unfolding wrong_mark
same_fields n w b =
    let fs = split widths n in
    let k = split_fit widths n in
    let m = neither (other_mark fs || spare_set fs) (lost_not_zero fs) w in
    let l = neither (other_mark fs) (spare_set fs) m.0 in
    let g = each_good (of_fields fs) b in
    let em = eqb-true (get_or fs 0 0) mark (not-false (eqb (get_or fs 0 0) mark) l.0) in
    let ez = eqb-true (get_or fs 3 0) 0 (not-false (eqb (get_or fs 3 0) 0) l.1) in
    let es = bits_back most_speed (get_or fs 5 0) k.1.1.1.1.1.0 g.0 in
    let ef = bits_back most_psi (get_or fs 6 0) k.1.1.1.1.1.1.0 g.1 in
    let r = same_rear (get_or fs 2 0) (get_or fs 7 0) k.1.1.0 k.1.1.1.1.1.1.1.0 m.1 g.2 in
    λ i. sym em i ∷ get_or fs 1 0 ∷ r.0 i ∷ sym ez i ∷ get_or fs 4 0 ∷ es i ∷ ef i ∷ r.1 i ∷ []

pub accepted_writes_back : AcceptedWritesBack
unfolding AcceptedWritesBack no_room bytes_of raw_in
accepted_writes_back s out b room h =
    let raw = (read_sample s).1 in
    let i = read_inv s raw (λ j. (h j, raw)) in
    let e = i.0.raw_is in
    write_is raw out false false false (ap too_wide e ∙ laid_narrow s) i.1 (le-ltb (length out) size room)
    ∙ ap (λ (l : List ℕ). (Accepted, l ++ drop size out))
    (ap bytes_of e
    ∙ ap (bytes_from size widths) (same_fields (num s) i.0.mark (ap bad_reading (sym e) ∙ i.1))
    ∙ bytes_of_fields size widths refl s b (right_length s i.0.length))
