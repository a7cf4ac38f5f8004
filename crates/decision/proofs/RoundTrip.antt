-- The round trip of the decision's record. Assumes nothing.
use mathlib.Core.Path.{◌≡◌, refl, sym, ap, ap₂, ◌∙◌}
use Prim.Native.Nat.{ℕ}
use mathlib.Core.Bool.{Bool, true, false, not, ◌||◌}
use mathlib.Core.List.{List, [], ◌∷◌, ◌++◌, append_assoc}
use native.Mathlib.Nat.{le_of_eq}
use native.Mathlib.Omega.{arith}
use lib.ListN.{take, drop, length, get_or}
use lib.Seq.{take_at, drop_at}
use lib.Dec.{eqb}
use borrow.Author.Tests.{eqb-true, not-false}
use Rattle.bits.specs.Fields.{split, Fit}
use Rattle.bits.proofs.Bit.{of_bit, to_bit}
use Rattle.refusal.specs.Lowest.{lowest}
use Rattle.refusal.specs.Steps.{kept}
use Rattle.refusal.specs.Written.{written}
use Rattle.refusal.specs.Verdict.{Verdict, Accepted}
use Rattle.refusal.proofs.Order.{accepted, last_passed, append_passed, append_accepted, written_accepted}
use Rattle.record.proofs.RoundTrip.{write_accepted, written_back, accepted_back}
use Rattle.decision.specs.declared.Decision.{Decision}
use Rattle.decision.specs.Decision.{size, mark, emergency_mark, mark_of, is_mark, widths, fields_of, of_fields, decision_in, bytes_of, wrong_mark, wrong, rules, none, answer, read_decision, write_decision, both_bytes, both_rules, write_both}
use Rattle.decision.specs.RoundTrip.{WrittenReadsBack, AcceptedWritesBack, BothReadBack}
use Rattle.decision.proofs.Answers.{bytes_size, fits}

of_mark : (b : Bool) → eqb (mark_of b) emergency_mark ≡ b
of_mark true = refl
of_mark false = refl

right_mark : (b : Bool) → not (is_mark (mark_of b)) ≡ false
right_mark true = refl
right_mark false = refl

to_mark : (m : ℕ) → not (is_mark m) ≡ false → mark_of (eqb m emergency_mark) ≡ m
to_mark m h = by (eqb m emergency_mark) refl (not-false (is_mark m) h)
  where
    by : (b : Bool) → eqb m emergency_mark ≡ b → eqb m mark || b ≡ true → mark_of b ≡ m
    by true e k = sym (eqb-true m emergency_mark e)
    by false e k = sym (eqb-true m mark (sym (or-false (eqb m mark)) ∙ k))
      where
        or-false : (a : Bool) → a || false ≡ a
        or-false true = refl
        or-false false = refl

sound_fits : (d : Decision) → lowest (rules d) ≡ Accepted → Fit widths (fields_of d)
sound_fits d h = fits d (accepted _ _ _ h).0

of_fields_lem : (d : Decision) → lowest (rules d) ≡ Accepted → of_fields (fields_of d) ≡ d
of_fields_lem d h = rw (of_mark d.emergency, of_bit d.penalty)

its_mark : (d : Decision) → lowest (wrong (fields_of d)) ≡ Accepted
unfolding wrong_mark
its_mark d = last_passed _ _ (right_mark d.emergency)

-- the fields of a number that begins with either mark
to_fields : (n : ℕ) → lowest (wrong (split widths n)) ≡ Accepted → fields_of (of_fields (split widths n)) ≡ split widths n
unfolding wrong_mark
to_fields n h =
    let fs = split widths n in
    ap₂ (λ (m p : ℕ). m ∷ get_or fs 1 0 ∷ get_or fs 2 0 ∷ p ∷ get_or fs 4 0 ∷ get_or fs 5 0 ∷ [])
    (to_mark (get_or fs 0 0) (accepted _ _ _ h).0)
    (to_bit (get_or fs 3 0) (omega arith))

pub written_reads_back : WrittenReadsBack
unfolding WrittenReadsBack bytes_of decision_in read_decision write_decision
written_reads_back d out h =
    let w = written_back size widths fields_of of_fields wrong rules refl sound_fits of_fields_lem its_mark to_fields d out h in
    ap₂ answer w.0 w.1

pub accepted_writes_back : AcceptedWritesBack
unfolding AcceptedWritesBack bytes_of decision_in read_decision write_decision
accepted_writes_back s out b room h =
    ap (λ (v : Verdict). write_decision (kept v (decision_in s) none) out) h
    ∙ accepted_back size widths fields_of of_fields wrong rules refl sound_fits of_fields_lem its_mark to_fields s out b room h

-- ---- both records

bytes_read_back : (d : Decision) → lowest (rules d) ≡ Accepted → read_decision (bytes_of d) ≡ answer Accepted d
unfolding WrittenReadsBack write_decision bytes_of
bytes_read_back d r =
    let out = bytes_of d in
    let w = write_accepted size widths fields_of of_fields wrong rules refl sound_fits of_fields_lem its_mark to_fields d out r (le_of_eq (sym (bytes_size d))) in
    sym
    (ap (λ (a : Verdict × List ℕ). read_decision (take size a.1)) w
    ∙ ap read_decision (take_at (bytes_of d) (drop size out) size (bytes_size d)))
    ∙ written_reads_back d out (ap (λ (a : Verdict × List ℕ). a.0) w)

pub both_read_back : BothReadBack
unfolding BothReadBack write_both both_bytes
both_read_back d e out h =
    let w = written_accepted (lowest (both_rules d e out)) (both_bytes d e) out h in
    let rest = bytes_of e ++ drop (length (both_bytes d e)) out in
    let laid : (write_both d e out).1 ≡ bytes_of d ++ rest =
    ap (λ (v : Verdict). (written v (both_bytes d e) out).1) w ∙ append_assoc (bytes_of d) (bytes_of e) (drop (length (both_bytes d e)) out) in
    let first = append_accepted (rules d) _ w in
    let second = append_accepted (rules e) _ (sym (append_passed (rules d) _ first) ∙ w) in (
      ap (λ (l : List ℕ). read_decision (take size l)) laid ∙ ap read_decision (take_at (bytes_of d) rest size (bytes_size d)) ∙ bytes_read_back d first,
      ap (λ (l : List ℕ). read_decision (take size (drop size l))) laid
          ∙ ap (λ (l : List ℕ). read_decision (take size l)) (drop_at (bytes_of d) rest size (bytes_size d))
          ∙ ap read_decision (take_at (bytes_of e) _ size (bytes_size e))
          ∙ bytes_read_back e second,
    )
