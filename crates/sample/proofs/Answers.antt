-- Laying out, judging, reading and writing try their rules in order; what the conditions and the answers tell. No function's answer: lemmas that several answers cite. Assumes nothing.
use mathlib.Core.Path.{◌≡◌, refl, sym, ap, ◌∙◌}
use Prim.Native.Nat.{ℕ, ◌^◌, ◌<◌}
use native.Mathlib.Omega.{arith}
use mathlib.Core.Bool.{Bool, true, false, ◌||◌}
use mathlib.Core.List.{List, [], ◌∷◌}
use lib.ListN.{length}
use lib.Dec.{leb, eqb, lit<}
use borrow.Author.Tests.{eqb-true, leb-false, lt-leb, not-false}
use Rattle.bits.specs.Fields.{Fit}
use Rattle.bits.specs.Bytes.{num, fields_in}
use Rattle.bits.specs.Places.{fields_from}
use Rattle.bits.proofs.Fields.{split_fit}
use Rattle.bits.proofs.Places.{fields_from_lem}
use Rattle.bits.proofs.Ranges.{neither}
use Rattle.hundredths.specs.declared.Rounding.TheVariants.{Up, Down}
use Rattle.sample.specs.declared.RearPressure.{RearPressure}
use Rattle.hundredths.specs.Reading.{hundredths_of, is_bad, most_speed, most_psi}
use Rattle.record.specs.Record.{wrong_length}
use Rattle.refusal.specs.Lowest.{lowest}
use Rattle.refusal.specs.Written.{no_room, written}
use Rattle.refusal.specs.declared.Refusal.{Refusal}
use Rattle.refusal.specs.declared.Refusal.TheVariants.{WrongLength, WrongMark, OutOfRange, BadReading, NoRoom}
use Rattle.refusal.specs.Verdict.{Verdict, Accepted, Refused}
use Rattle.refusal.proofs.Order.{accepted, append_given, append_passed}
use Rattle.refusal.proofs.Steps.{first_of, in_order}
use Rattle.sample.specs.declared.Rear.{Rear}
use Rattle.sample.specs.declared.Rear.TheVariants.{Present, Lost}
use Rattle.sample.specs.declared.RawSample.{RawSample}
use Rattle.sample.specs.declared.Sample.{Sample}
use Rattle.sample.specs.Sample.{size, widths, reading_widths, present_bit, fields_of, readings_of, raw_in, bytes_of, wrong_mark, too_wide, bad_rear, bad_reading, rear_in_hundredths, answer, layout_rules, lay_out, sample_of, judge_rules, judgement, judge_sample, read_rules, read_sample, write_rules, write_sample}

-- ---- conditions

pub right_length : (s : List ℕ) → wrong_length size s ≡ false → length s ≡ size
unfolding wrong_length
right_length s h = eqb-true (length s) size (not-false (eqb (length s) size) h)

-- past the length: the fields that are read are those of the record
pub fields_read : (s : List ℕ) → wrong_length size s ≡ false → fields_from 0 widths s ≡ fields_in widths s
fields_read s h = fields_from_lem 0 widths s tt (omega (arith, right_length s h))

-- what is not too wide fits its 24 bits
pub narrow : (raw : RawSample) → too_wide raw ≡ false → (raw.time < 2 ^ 24) × (raw.head < 2 ^ 24)
unfolding too_wide
narrow raw h =
    let n = neither (leb (2 ^ 24) raw.time) (leb (2 ^ 24) raw.head) h in
    (leb-false (2 ^ 24) raw.time n.0, leb-false (2 ^ 24) raw.head n.1)

bit_lt : (r : Rear) → present_bit r < 2
bit_lt (Present x) = lit< tt
bit_lt Lost = lit< tt

pub fits : (raw : RawSample) → too_wide raw ≡ false → Fit reading_widths (readings_of raw) → Fit widths (fields_of raw)
fits raw w f = let n = narrow raw w in (lit< tt, (n.0, (bit_lt raw.rear, (lit< tt, (n.1, f)))))

-- a field of 24 bits is not over 24 bits
pub laid_narrow : (s : List ℕ) → too_wide (raw_in s) ≡ false
unfolding raw_in too_wide
laid_narrow s =
    let f = split_fit widths (num s) in
    simp (lt-leb _ _ f.1.0, lt-leb _ _ f.1.1.1.1.0)

pub each_good : (raw : RawSample) → bad_reading raw ≡ false
    → (is_bad most_speed raw.speed ≡ false) × (is_bad most_psi raw.front ≡ false) × (bad_rear raw.rear ≡ false)
unfolding bad_reading
each_good raw h =
    let n = neither (is_bad most_speed raw.speed || is_bad most_psi raw.front) (bad_rear raw.rear) h in
    let m = neither (is_bad most_speed raw.speed) (is_bad most_psi raw.front) n.0 in
    (m.0, m.1, n.1)

-- ---- the rules in order

pub layout_is : (s : List ℕ) (a b : Bool) → wrong_length size s ≡ a → wrong_mark (fields_in widths s) ≡ b
    → lay_out s ≡ answer (first_of ((a, WrongLength) ∷ (b, WrongMark) ∷ [])) (raw_in s)
unfolding lay_out
layout_is s a b h i = rw (in_order (layout_rules s) tt, h, i)

pub judge_is : (raw : RawSample) (a : Bool) → bad_reading raw ≡ a → judge_sample raw ≡ judgement (first_of ((a, BadReading) ∷ [])) (sample_of raw)
unfolding judge_sample
judge_is raw a h = rw (in_order (judge_rules raw) tt, h)

pub write_is : (raw : RawSample) (out : List ℕ) (a b c : Bool) → too_wide raw ≡ a → bad_reading raw ≡ b → no_room size out ≡ c
    → write_sample raw out ≡ written (first_of ((a, OutOfRange) ∷ (b, BadReading) ∷ (c, NoRoom) ∷ [])) (bytes_of raw) out
unfolding write_sample
write_is raw out a b c h i j = rw (in_order (write_rules raw out) tt, h, i, j)

-- ---- what an answer tells

-- past the length and the mark: the raw sample is the one that the bytes stand for
pub record LaidOut (s : List ℕ) (raw : RawSample) : Type 0 where
  pub length : wrong_length size s ≡ false
  pub mark : wrong_mark (fields_in widths s) ≡ false
  pub raw_is : raw ≡ raw_in s

module _ (s : List ℕ) where
  pub layout_raw : (raw : RawSample) → LaidOut s raw → lay_out s ≡ (Accepted, raw)
  layout_raw raw l = layout_is s false false l.length l.mark ∙ ap (answer Accepted) (sym l.raw_is)

  pub laid_out : (raw : RawSample) → lay_out s ≡ (Accepted, raw) → LaidOut s raw
  unfolding lay_out
  laid_out raw h =
      let v : lowest (layout_rules s) ≡ Accepted = λ i. (h i).0 in
      let l = accepted _ _ _ v in
      record {
        length = l.0;
        mark = (accepted _ _ _ l.1).0;
        raw_is = sym (λ i. (h i).1) ∙ ap (λ (w : Verdict). (answer w (raw_in s)).1) v;
      }

  -- the reader refuses what is not laid out, as it was refused there; of what is, the readings decide
  pub read_refused : (r : Refusal) (raw : RawSample) → lay_out s ≡ (Refused r, raw) → read_sample s ≡ lay_out s
  unfolding lay_out read_sample
  read_refused r raw h =
      let v : lowest (layout_rules s) ≡ Refused r = λ i. (h i).0 in
      ap (λ (w : Verdict). answer w (raw_in s)) (append_given (layout_rules s) (judge_rules (raw_in s)) r tt v ∙ sym v)

  pub read_is : (raw : RawSample) (b : Bool) → lay_out s ≡ (Accepted, raw) → bad_reading raw ≡ b → read_sample s ≡ answer (first_of ((b, BadReading) ∷ [])) raw
  unfolding lay_out read_sample
  read_is raw b h e =
      ap (λ (v : Verdict). answer v (raw_in s)) (append_passed (layout_rules s) (judge_rules (raw_in s)) (λ i. (h i).0))
      ∙ ap (λ (x : RawSample). answer (lowest (judge_rules x)) x) (sym (laid_out raw h).raw_is)
      ∙ rw (in_order (judge_rules raw) tt, e)

  pub read_inv : (raw : RawSample) → read_sample s ≡ (Accepted, raw) → LaidOut s raw × (bad_reading raw ≡ false)
  unfolding read_sample
  read_inv raw h =
      let v : lowest (read_rules s) ≡ Accepted = λ i. (h i).0 in
      let l = accepted _ _ _ v in
      let m = accepted _ _ _ l.1 in
      let e : raw ≡ raw_in s = sym (λ i. (h i).1) ∙ ap (λ (w : Verdict). (answer w (raw_in s)).1) v in
      (record { length = l.0; mark = m.0; raw_is = e }, ap bad_reading e ∙ (accepted _ _ _ m.1).0)

module _ (raw : RawSample) where
  pub judge_accepted : bad_reading raw ≡ false → judge_sample raw ≡ (Accepted, sample_of raw)
  judge_accepted h = judge_is raw false h

  pub judged_accepted : (x : Sample) → judge_sample raw ≡ (Accepted, x) → (bad_reading raw ≡ false) × (x ≡ sample_of raw)
  unfolding judge_sample
  judged_accepted x h =
      let v : lowest (judge_rules raw) ≡ Accepted = λ i. (h i).0 in
      ((accepted _ _ _ v).0, sym (λ i. (h i).1) ∙ ap (λ (w : Verdict). (judgement w (sample_of raw)).1) v)

  pub judged_refused : (r : Refusal) (x : Sample) → judge_sample raw ≡ (Refused r, x) → (bad_reading raw ≡ true) × (r ≡ BadReading)
  unfolding judge_sample lowest
  judged_refused r x h = go (bad_reading raw) (λ i. (h i).0)
    where
      go : (b : Bool) → lowest ((b, BadReading) ∷ []) ≡ Refused r → (b ≡ true) × (r ≡ BadReading)
      go true e = (refl, cc)
      go false e = (cc, cc)

-- readings that are good, in hundredths
pub judged_good : (raw : RawSample) (s f : ℕ) (p : RearPressure) → (is_bad most_speed raw.speed ≡ false) × (s ≡ hundredths_of Up raw.speed)
    → (is_bad most_psi raw.front ≡ false) × (f ≡ hundredths_of Down raw.front) → bad_rear raw.rear ≡ false → p ≡ rear_in_hundredths raw.rear
    → (Accepted, record { time = raw.time; head = raw.head; speed = s; front = f; rear = p }) ≡ judge_sample raw
unfolding bad_reading
judged_good raw s f p a b r e =
    (λ i. (Accepted, record { time = raw.time; head = raw.head; speed = a.1 i; front = b.1 i; rear = e i })) ∙ sym (judge_is raw false (simp (a.0, b.0, r)))
