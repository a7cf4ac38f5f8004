-- The round trips of a table, from the facts of one record. Assumes nothing.
use mathlib.Core.Path.{◌≡◌, sym, ap, ap₂, subst, ◌∙◌}
use mathlib.Core.Bool.{Bool, true, ◌&&◌, cond}
use mathlib.Core.List.{List, [], ◌++◌, append-nil}
use Prim.Native.Nat.{ℕ, ◌*◌, ◌/◌, ◌%◌, ◌≤◌, ◌<◌}
use native.Mathlib.Nat.{mul-div_cancel_left, mul-mod_right}
use native.Mathlib.Omega.{arith}
use lib.ListN.{length, take, drop}
use lib.Seq.{take_at, take_all}
use borrow.Author.Tests.{ltb-false, lt-ltb, eq-eqb, not-false}
use Rattle.bits.specs.Bytes.{Bytes, num, fields_in, bytes_from}
use Rattle.bits.specs.Tables.{part}
use Rattle.bits.proofs.Bytes.{total-eights, fields_of_bytes, bytes_of_fields, bytes_take, bytes_drop}
use Rattle.bits.proofs.Ranges.{and-true_right}
use Rattle.refusal.specs.Written.{no_room}
use Rattle.refusal.specs.Verdict.{Verdict, Accepted}
use Rattle.refusal.proofs.Order.{accepted, written_accepted}
use Rattle.table.specs.Table.{Table, part_at, lawful, count, fields_at, record_at, clean_at, lawful_in, judge, record_bytes, bytes_of, lawful_of, write}
use Rattle.table.specs.RoundTrip.{Holds}
use Rattle.table.specs.Facts.{Facts}
use Rattle.table.proofs.Records.{length_part}
use Rattle.table.proofs.Judging.{lawful_sound, lawful_same, judge_is, judged_lawful, judged_whole, judged_sound}
use Rattle.table.proofs.Writing.{length-bytes_of, part_of_bytes, bytes_of_parts, write_accepted}

-- what the writer accepts
pub written_lawful : {A : Type 0} (t : Table A) (same : Bool) (n : ℕ) (f : ℕ → A) (out : List ℕ) → (write t same n f out).0 ≡ Accepted
    → (lawful_of t same n f ≡ true) × (t.size * n ≤ length out)
unfolding write no_room
written_lawful t same n f out h =
    let r = accepted _ _ _ (written_accepted _ (bytes_of t n f) out h) in
    (not-false _ r.0, ltb-false (length out) (t.size * n) (accepted _ _ _ r.1).0)

module _ {A : Type 0} (t : Table A) (facts : Facts t) where
  -- ---- what is written

  module _ (n : ℕ) (f : ℕ → A) (h : lawful t n f (λ k. true) ≡ true) where
    number : count t (bytes_of t n f) ≡ n
    number = ap (λ (i : ℕ). i / t.size) (length-bytes_of t f n) ∙ mul-div_cancel_left n facts.some

    fields_is : (k : ℕ) → k < n → fields_at t (bytes_of t n f) k ≡ t.fields_of (f k)
    unfolding part_at
    fields_is k l =
        let s = bytes_of t n f in
        ap (λ (b : Bool). fields_in t.widths (cond b (part t.size s k) [])) (lt-ltb k (count t s) (subst (λ (i : ℕ). k < i) (sym number) l))
        ∙ ap (fields_in t.widths) (ap (λ (x : List ℕ). part t.size x k) (sym (append-nil s)) ∙ part_of_bytes t f n k [] l)
        ∙ fields_of_bytes t.size t.widths (facts.whole ∙ sym (total-eights t.size)) (t.fields_of (f k)) (facts.fits (f k) ((lawful_sound t n f (λ i. true) h).each k l))

    record_is : (k : ℕ) → k < n → record_at t (bytes_of t n f) k ≡ f k
    unfolding record_at
    record_is k l = ap t.of_fields (fields_is k l) ∙ facts.back (f k) ((lawful_sound t n f (λ i. true) h).each k l)

    clean_is : (k : ℕ) → k < n → clean_at t (bytes_of t n f) k ≡ true
    unfolding clean_at
    clean_is k l = ap t.clean (fields_is k l) ∙ facts.right (f k)

    bytes_lawful : lawful_in t (bytes_of t n f) ≡ true
    unfolding lawful_in
    bytes_lawful =
        let s = bytes_of t n f in
        let w : length s % t.size ≡ 0 = ap (λ (i : ℕ). i % t.size) (length-bytes_of t f n) ∙ mul-mod_right t.size n in
        ap₂ (λ (a : Bool) (m : ℕ). a && lawful t m (record_at t s) (clean_at t s)) (eq-eqb (length s % t.size) 0 w) number
        ∙ lawful_same t (record_at t s) f (clean_at t s) (λ k. true) n record_is clean_is
        ∙ h

    holds : Holds t (bytes_of t n f) n f
    holds = record { judged = judge_is t (bytes_of t n f) true bytes_lawful ∙ ap (λ (i : ℕ). (Accepted, i)) number; records = record_is }

  module _ (same : Bool) (n : ℕ) (f : ℕ → A) (out : List ℕ) where
    -- what is written reads back the same
    pub written_back : (write t same n f out).0 ≡ Accepted → Holds t (take (t.size * n) (write t same n f out).1) n f
    written_back h =
        let i = written_lawful t same n f out h in
        let e : take (t.size * n) (write t same n f out).1 ≡ bytes_of t n f =
        ap (λ (w : Verdict × List ℕ). take (t.size * n) w.1) (write_accepted t f facts same n out i.0 i.1)
        ∙ take_at (bytes_of t n f) (drop (t.size * n) out) (t.size * n) (length-bytes_of t f n) in
        subst (λ (s : List ℕ). Holds t s n f) (sym e) (holds n f (and-true_right same (lawful t n f (λ k. true)) i.0))

    -- ---- what is accepted would be written with the same bits

    module _ (s : List ℕ) (b : Bytes s) (h : judge t s ≡ (Accepted, n)) (are : (k : ℕ) → k < n → f k ≡ record_at t s k) where
      same_bytes : (k : ℕ) → k < n → record_bytes t (f k) ≡ part t.size s k
      unfolding record_at clean_at part_at
      same_bytes k l =
          let m : k < count t s = subst (λ (i : ℕ). k < i) (sym (judged_lawful t s n h).1) l in
          let r : part_at t.size s k ≡ part t.size s k = rw (lt-ltb k (count t s) m) in
          ap (record_bytes t) (are k l)
          ∙ ap (bytes_from t.size t.widths) (facts.forth (num (part_at t.size s k)) ((judged_sound t s n h).clean k l) ∙ ap (fields_in t.widths) r)
          ∙ bytes_of_fields t.size t.widths (facts.whole ∙ sym (total-eights t.size)) (part t.size s k)
          (bytes_take t.size (drop (t.size * k) s) (bytes_drop (t.size * k) s b)) (length_part t.size s k facts.some m)

      -- the lists that the parts come in have one length, which is the first one's
      pub accepted_back : (m : ℕ) → m ≡ n → same ≡ true → length s ≤ length out → write t same m f out ≡ (Accepted, s ++ drop (length s) out)
      accepted_back m l e room =
          let w = judged_whole t s n h in
          let bits : (k : ℕ) → k < n → true ≡ clean_at t s k = λ k l. sym ((judged_sound t s n h).clean k l) in
          ap (λ (i : ℕ). write t same i f out) l
          ∙ write_accepted t f facts same n out (ap₂ ◌&&◌ e (lawful_same t f (record_at t s) (λ k. true) (clean_at t s) n are bits ∙ w.1)) (omega arith)
          ∙ ap₂ (λ (l : List ℕ) (i : ℕ). (Accepted, l ++ drop i out)) (bytes_of_parts t f n s same_bytes ∙ take_all (t.size * n) s (omega arith)) (sym w.0)
