-- The round trips of a record, from what its fields and its value have to do with each other. Assumes nothing.
use mathlib.Core.Path.{◌≡◌, sym, ap, ◌∙◌}
use Prim.Native.Nat.{ℕ, ◌≤◌}
use mathlib.Core.Bool.{not}
use mathlib.Core.List.{List, ◌++◌}
use lib.Dec.{eqb}
use lib.ListN.{length, take, drop}
use lib.Seq.{take_at}
use borrow.Author.Tests.{eqb-true, eq-eqb, le-ltb, not-false}
use Rattle.bits.specs.Fields.{total, split, join, Fit}
use Rattle.bits.specs.Bytes.{eights, Bytes, num, fields_in, bytes_from}
use Rattle.bits.proofs.Fields.{length-split}
use Rattle.bits.proofs.Bytes.{length-eights, fields_of_bytes, bytes_of_fields}
use Rattle.refusal.specs.Lowest.{Rule, lowest}
use Rattle.refusal.specs.Written.{no_room, written}
use Rattle.refusal.specs.Verdict.{Verdict, Accepted}
use Rattle.refusal.proofs.Order.{passed, last_passed, accepted, append_passed, append_accepted, written_accepted}
use Rattle.record.specs.Record as record_specs
use Rattle.record.specs.Record.{wrong_length}

module _ {A : Type 0} (n : ℕ) (ws : List ℕ) (fields_of : A → List ℕ) (of_fields : List ℕ → A) (wrong : List ℕ → List Rule) (rules : A → List Rule)
    (whole : total ws ≡ total (eights n))
    (fits : (a : A) → lowest (rules a) ≡ Accepted → Fit ws (fields_of a))
    (back : (a : A) → lowest (rules a) ≡ Accepted → of_fields (fields_of a) ≡ a)
    (right : (a : A) → lowest (wrong (fields_of a)) ≡ Accepted)
    (forth : (k : ℕ) → lowest (wrong (split ws k)) ≡ Accepted → fields_of (of_fields (split ws k)) ≡ split ws k) where
  abbrev read_rules : List ℕ → List Rule
  read_rules = record_specs.read_rules n ws fields_of of_fields wrong rules

  abbrev write_rules : A → List ℕ → List Rule
  write_rules = record_specs.write_rules n ws fields_of of_fields wrong rules

  abbrev bytes_of : A → List ℕ
  bytes_of = record_specs.bytes_of n ws fields_of of_fields wrong rules

  pub size : (a : A) → length (bytes_of a) ≡ n
  size a = length-split (eights n) (join ws (fields_of a)) ∙ length-eights n

  -- ---- what is accepted

  pub write_accepted : (a : A) (out : List ℕ) → lowest (rules a) ≡ Accepted → n ≤ length out
      → written (lowest (write_rules a out)) (bytes_of a) out ≡ (Accepted, bytes_of a ++ drop n out)
  unfolding no_room
  write_accepted a out r h =
      ap (λ (v : Verdict). written v (bytes_of a) out) (append_passed (rules a) _ r ∙ last_passed _ _ (le-ltb (length out) n h))
      ∙ ap (λ (k : ℕ). (Accepted, bytes_of a ++ drop k out)) (size a)

  -- ---- there and back

  fields_back : (a : A) → lowest (rules a) ≡ Accepted → fields_in ws (bytes_of a) ≡ fields_of a
  fields_back a r = fields_of_bytes n ws whole (fields_of a) (fits a r)

  stands : (a : A) → lowest (rules a) ≡ Accepted → of_fields (fields_in ws (bytes_of a)) ≡ a
  stands a r = ap of_fields (fields_back a r) ∙ back a r

  bytes_read : (a : A) → lowest (rules a) ≡ Accepted → lowest (read_rules (bytes_of a)) ≡ Accepted
  unfolding wrong_length
  bytes_read a r =
      passed _ _ _ (ap not (eq-eqb _ _ (size a)))
      ∙ append_passed (wrong (fields_in ws (bytes_of a))) _ (ap (λ (fs : List ℕ). lowest (wrong fs)) (fields_back a r) ∙ right a)
      ∙ ap (λ (b : A). lowest (rules b)) (stands a r)
      ∙ r

  -- what is written reads back the same
  pub written_back : (a : A) (out : List ℕ) → (written (lowest (write_rules a out)) (bytes_of a) out).0 ≡ Accepted
      → (lowest (read_rules (take n (written (lowest (write_rules a out)) (bytes_of a) out).1)) ≡ Accepted)
      × (of_fields (fields_in ws (take n (written (lowest (write_rules a out)) (bytes_of a) out).1)) ≡ a)
  written_back a out h =
      let w = written_accepted (lowest (write_rules a out)) (bytes_of a) out h in
      let r = append_accepted (rules a) _ w in
      let t : take n (written (lowest (write_rules a out)) (bytes_of a) out).1 ≡ bytes_of a =
      ap (λ (v : Verdict). take n (written v (bytes_of a) out).1) w ∙ take_at (bytes_of a) (drop (length (bytes_of a)) out) n (size a) in
      (ap (λ (s : List ℕ). lowest (read_rules s)) t ∙ bytes_read a r, ap (λ (s : List ℕ). of_fields (fields_in ws s)) t ∙ stands a r)

  -- what is accepted would be written with the same bits
  pub accepted_back : (s out : List ℕ) → Bytes s → n ≤ length out → lowest (read_rules s) ≡ Accepted
      → written (lowest (write_rules (of_fields (fields_in ws s)) out)) (bytes_of (of_fields (fields_in ws s))) out ≡ (Accepted, s ++ drop n out)
  unfolding wrong_length
  accepted_back s out b room h =
      let l = accepted _ _ _ h in
      let m = append_accepted (wrong (fields_in ws s)) _ l.1 in
      let r = sym (append_passed (wrong (fields_in ws s)) _ m) ∙ l.1 in
      let e : bytes_of (of_fields (fields_in ws s)) ≡ s =
      ap (bytes_from n ws) (forth (num s) m) ∙ bytes_of_fields n ws whole s b (eqb-true (length s) n (not-false (eqb (length s) n) l.0)) in
      write_accepted (of_fields (fields_in ws s)) out r room ∙ ap (λ (x : List ℕ). (Accepted, x ++ drop n out)) e
