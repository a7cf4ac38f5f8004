-- The round trip of the session's record. Assumes nothing.
use mathlib.Core.Path.{◌≡◌, refl, sym, ap, ap₂, subst, ◌∙◌}
use Prim.Native.Nat.{ℕ, zero, suc, ◌-◌, ◌*◌, ◌/◌, ◌≤◌, ◌<◌}
use native.Mathlib.Nat.{mul-div_cancel_left}
use native.Mathlib.Omega.{arith}
use mathlib.Core.Bool.{true, false, not, ◌||◌}
use mathlib.Core.List.{List, [], ◌∷◌, ◌++◌}
use lib.ListN.{length, take, drop, get_or, length-take, length-drop, take-append-drop}
use lib.Dec.{ltb}
use lib.Seq.{take-add, take_at, drop_at, take-take, take-append-le, length-take-le}
use borrow.Author.Tests.{eq-eqb, le-ltb}
use Rattle.bits.specs.Fields.{total, split, join}
use Rattle.bits.specs.Bytes.{Bytes, num, eights, fields_in, bytes_from}
use Rattle.bits.proofs.Fields.{split_fit}
use Rattle.bits.proofs.Bit.{of_bit, to_bit}
use Rattle.bits.proofs.Bytes.{bytes_take, bytes_drop, fields_of_bytes, bytes_of_fields}
use Rattle.bits.proofs.Parts.{fields_append}
use Rattle.bits.proofs.Places.{fields_from_lem}
use Rattle.refusal.specs.Steps.{kept}
use Rattle.refusal.specs.Verdict.{Accepted}
use Rattle.record.specs.Record.{wrong_length}
use Rattle.seal.specs.Seal.{sealed, is_sealed}
use Rattle.seal.specs.Seen.{SealedFound, FoundSealed}
use Rattle.seal.proofs.Seals.{sealed_found, found_sealed, split_bytes, append_bytes, sealed_bytes}
use Rattle.blocks.specs.declared.Blocks.{Blocks}
use Rattle.blocks.specs.Blocks as blocks
use Rattle.blocks.specs.Blocks.{lay_of, is_laid_out, bytes_to}
use Rattle.blocks.specs.RoundTrip as blocks_trip
use Rattle.blocks.proofs.Bytes.{length_bytes}
use Rattle.blocks.proofs.RoundTrip as blocks_back
use Rattle.consist.specs.declared.Consist.{Consist}
use Rattle.consist.specs.Consist as consist
use Rattle.consist.proofs.Answers as consist_answers
use Rattle.consist.proofs.Sound as consist_sound
use Rattle.brake.specs.State.{state_number, state_of}
use Rattle.brake.proofs.StateNumbers.{number_most}
use Rattle.brake.proofs.Told.{state_back}
use Rattle.brake.proofs.Rear.{choice_back, heard_back, choice_again, heard_again}
use Rattle.learn.proofs.Stages.{stage_of_number, stage_number_most, number_of_stage}
use Rattle.session.specs.declared.Session.{Session}
use Rattle.session.specs.Session.{is_open, none_open}
use Rattle.session.proofs.Opened.{opened}
use Rattle.held.specs.Held as held
use Rattle.held.specs.Held.{size, mark_for, count_in, wrong_mark, behind_for, size_for, size_of, most, widths, fields_of, of_fields, front_of, behind_of, bytes_of, fields_at, front_at, behind_at, count_at, blocks_at, consist_at, record_at, session_in, no_front, no_behind, no_record, is_broken, no_session, answer, read_session, write_session}
use Rattle.laws.specs.HeldTrip.{WrittenReadsBack, AcceptedWritesBack, BytesTell}
use Rattle.held.proofs.Sizes.{count_back, mark_right, in_buffer}
use Rattle.held.proofs.Answers.{IsRecord, read_is, read_inv, front_size, size_of_lem, write_accepted, write_inv, few, fits}

-- ---- an open session

to_number : (n : ℕ) → n ≤ 5 → state_number (state_of n) ≡ n
to_number zero h = refl
to_number (suc zero) h = refl
to_number (suc (suc zero)) h = refl
to_number (suc (suc (suc zero))) h = refl
to_number (suc (suc (suc (suc zero)))) h = refl
to_number (suc (suc (suc (suc (suc zero))))) h = refl
to_number (suc (suc (suc (suc (suc (suc n)))))) h = absurd (omega arith)

-- its fields tell it
of_fields_lem : (x : Session) → is_open x ≡ true → of_fields (fields_of x) x.consist ≡ x
of_fields_lem x h =
    let k = x.brake in
    rw (state_back k.state, of_bit k.sampled, choice_back k.choice, heard_back k.heard, stage_of_number x.learner.stage, sym (opened x h).opened)

-- ---- the bytes of a session

-- the fields that a front begins with are those of its own bytes
fields_at_lem : (s : List ℕ) → Bytes s → length s ≡ size → fields_at s ≡ fields_in widths (take held.own s)
fields_at_lem s b l =
    let rest : length (drop held.own s) ≡ 20 = simp length-drop (omega (arith, l)) in
    ap (take 25)
    (fields_from_lem 0 (widths ++ eights 20) s tt (omega (arith, l))
    ∙ ap (fields_in (widths ++ eights 20)) (sym (take-append-drop held.own s))
    ∙ fields_append widths (eights 20) (take held.own s) (drop held.own s) (bytes_drop held.own s b) (λ i. total (eights (sym rest i))))

pub blocks_bytes : (b : Blocks) (n : ℕ) → Bytes (bytes_to b n)
unfolding bytes_to
blocks_bytes b zero = λ i. omega arith
blocks_bytes b (suc n) = append_bytes (bytes_to b n) _ (blocks_bytes b n) (split_bytes 4 (join blocks.widths (blocks.fields_of b n)))

behind_bytes : (n : ℕ) (s : List ℕ) → Bytes s → Bytes (behind_of n s)
behind_bytes zero s b = λ i. omega arith
behind_bytes (suc n) s b = sealed_bytes s b

behind_seal : (n : ℕ) (s : List ℕ) → 0 < n → is_sealed (behind_of n s) ≡ true
unfolding SealedFound
behind_seal zero s h = absurd (omega arith)
behind_seal (suc n) s h = sealed_found s

nil : (s : List ℕ) → length s ≡ 0 → s ≡ []
nil [] e = refl
nil (x ∷ s) e = absurd (omega arith)

-- so many blocks, whose bytes these are, stand before their check word
behind_blocks : (n : ℕ) (s : List ℕ) → length s ≡ 4 * n → take (4 * n) (behind_of n s) ≡ s
unfolding sealed
behind_blocks zero s h = sym (nil s h)
behind_blocks (suc n) s h = take_at s _ (4 * suc n) h

behind_right : (n : ℕ) (s : List ℕ) → no_behind n (behind_of n s) ≡ false
unfolding SealedFound
behind_right zero s = refl
behind_right (suc n) s = ap not (sealed_found s)

module _ (x : Session) where
  abbrev b : Blocks
  b = x.consist.blocks

  abbrev behind : List ℕ
  behind = behind_of b.count (blocks.bytes_of b)

  pub front_bytes : Bytes (front_of x)
  unfolding front_of consist.front_of
  front_bytes =
      let own = join widths (fields_of x) in
      let rest = join consist.widths (consist.fields_of x.consist) in
      sealed_bytes (split (eights held.own) own ++ split (eights 16) rest) (append_bytes (split (eights held.own) own) (split (eights 16) rest) (split_bytes held.own own) (split_bytes 16 rest))

  pub front_seal : is_sealed (front_of x) ≡ true
  unfolding front_of SealedFound
  front_seal = sealed_found _

  pub bytes_of_lem : Bytes (bytes_of x)
  unfolding bytes_of blocks.bytes_of
  bytes_of_lem = append_bytes (front_of x) behind front_bytes (behind_bytes b.count (blocks.bytes_of b) (blocks_bytes b b.count))

  pub front_is : front_at (bytes_of x) ≡ front_of x
  unfolding bytes_of
  front_is = take_at (front_of x) behind size (front_size x)

  pub behind_is : behind_at (bytes_of x) ≡ behind
  unfolding bytes_of
  behind_is = drop_at (front_of x) behind size (front_size x)

  module _ (o : is_open x ≡ true) where
    front_fields : fields_at (front_of x) ≡ fields_of x
    unfolding front_of sealed consist.front_of
    front_fields = fields_at_lem (front_of x) front_bytes (front_size x) ∙ fields_of_bytes held.own widths refl (fields_of x) (fits x o)

    pub front_count : count_in (get_or (fields_at (front_of x)) 0 0) ≡ b.count
    front_count = ap (λ (fs : List ℕ). count_in (get_or fs 0 0)) front_fields ∙ count_back b.count (few x o)

    count_is : count_at (bytes_of x) ≡ b.count
    count_is = ap (λ (s : List ℕ). count_in (get_or (fields_at s) 0 0)) front_is ∙ front_count

    blocks_are : blocks_at (bytes_of x) ≡ blocks.bytes_of b
    blocks_are =
        ap₂ (λ (n : ℕ) (s : List ℕ). take (4 * n) s) count_is behind_is
        ∙ behind_blocks b.count (blocks.bytes_of b) (length_bytes b)

    -- the consist in the front, with the blocks behind it, is the session's
    blocks_same : (blocks.is_broken (blocks.bytes_of b) x.consist.length x.consist.weight ≡ false) × (lay_of (blocks.bytes_of b) ≡ b)
    unfolding blocks_trip.WrittenReadsBack consist.sound_blocks
    blocks_same =
        let c = (opened x o).consist.ranged in
        blocks_back.written_reads_back b x.consist.length x.consist.weight (omega arith) (omega arith) (consist_sound.is_sound_lem x.consist (opened x o).tested).2

    consist_back : consist.with_blocks (consist.consist_in (consist_at (bytes_of x))) (lay_of (blocks_at (bytes_of x))) ≡ x.consist
    unfolding bytes_of front_of sealed consist.consist_in consist.front_of
    consist_back =
        let c = consist_sound.is_sound_lem x.consist (opened x o).tested in
        ap₂ (λ (fs : List ℕ) (d : Blocks). consist.with_blocks (consist.of_fields fs) d)
        (fields_of_bytes 16 consist.widths refl (consist.fields_of x.consist) (consist_answers.fits x.consist c.0))
        (ap lay_of blocks_are ∙ blocks_same.1)

    pub stands : session_in (bytes_of x) ≡ x
    unfolding session_in
    stands = ap₂ of_fields (ap fields_at front_is ∙ front_fields) consist_back ∙ of_fields_lem x o

    a_front : no_front (front_of x) ≡ false
    unfolding no_front
    a_front =
        rw front_seal
        (subst (λ (fs : List ℕ). wrong_mark (get_or fs 0 0) || ltb 5 (get_or fs 5 0) || ltb 4 (get_or fs 15 0) ≡ false) (sym front_fields)
        (ap₂ ◌||◌ (ap₂ ◌||◌ (mark_right b.count (few x o)) (le-ltb 5 _ (number_most x.brake.state))) (le-ltb 4 _ (stage_number_most x.learner.stage))))

    a_record : no_record (bytes_of x) ≡ false
    unfolding no_record wrong_length
    a_record =
        ap₂ ◌||◌
        (ap₂ ◌||◌
        (ap not (eq-eqb (length (bytes_of x)) (size_for (count_at (bytes_of x))) (size_of_lem x ∙ ap size_for (sym count_is))))
        (ap no_front front_is ∙ a_front))
        (ap₂ no_behind count_is behind_is ∙ behind_right b.count (blocks.bytes_of b))

    not_broken : is_broken (bytes_of x) ≡ false
    unfolding is_broken
    not_broken =
        ap₂ (λ (c : Consist) (s : List ℕ). blocks.is_broken s c.length c.weight) consist_back blocks_are ∙ blocks_same.0

    pub bytes_read : read_session (bytes_of x) ≡ answer Accepted x
    unfolding no_session
    bytes_read = read_is (bytes_of x) false (rw (a_record, not_broken, ap is_open stands ∙ o)) ∙ ap (answer Accepted) stands

    -- a session buffer that begins with the record has it at its start
    pub start_is : (z : List ℕ) → most ≤ length (bytes_of x ++ z) → record_at (bytes_of x ++ z) ≡ bytes_of x
    start_is z room =
        let n : count_at (bytes_of x ++ z) ≡ b.count =
        ap (λ (s : List ℕ). count_in (get_or (fields_at s) 0 0)) (take-append-le size (bytes_of x) z (omega (arith, size_of_lem x)) ∙ front_is) ∙ front_count in
        in_buffer (bytes_of x ++ z) room
        ∙ ap (λ (k : ℕ). take (size_for k) (bytes_of x ++ z)) n
        ∙ take_at (bytes_of x) z (size_of x) (size_of_lem x)

pub written_reads_back : WrittenReadsBack
unfolding WrittenReadsBack
written_reads_back x out h =
    let i = write_inv x out h in
    (λ j. read_session (take (size_of x) (write_accepted x out i.0 i.1 j).1))
    ∙ ap read_session (take_at (bytes_of x) (drop (size_of x) out) (size_of x) (size_of_lem x))
    ∙ bytes_read x i.0

pub bytes_tell : BytesTell
unfolding BytesTell
bytes_tell x y o p h = sym (stands x o) ∙ ap session_in h ∙ stands y p

-- ---- the bits of what is accepted

-- fields that begin with this mark and have a state's number and a stage's
abbrev Right : Consist → List ℕ → Type 0
Right c fs = (get_or fs 0 0 ≡ mark_for c.blocks.count) × (get_or fs 5 0 ≤ 5) × (get_or fs 15 0 ≤ 4)

to_fields : (n : ℕ) (c : Consist) → Right c (split widths n) → fields_of (of_fields (split widths n) c) ≡ split widths n
to_fields n c h =
    let fs = split widths n in
    let sampled = to_bit (get_or fs 3 0) (split_fit widths n).1.1.1.0 in
    let choice = choice_again (get_or fs 4 0) (split_fit widths n).1.1.1.1.0 in
    let state = to_number (get_or fs 5 0) h.1 in
    let heard = heard_again (get_or fs 6 0) in
    let stage = number_of_stage (get_or fs 15 0) h.2 in
    λ i. sym h.0 i ∷ get_or fs 1 0 ∷ get_or fs 2 0 ∷ sampled i ∷ choice i ∷ state i ∷ heard i ∷ get_or fs 7 0 ∷ get_or fs 8 0 ∷ get_or fs 9 0 ∷ get_or fs 10 0 ∷ get_or fs 11 0 ∷ get_or fs 12 0 ∷ get_or fs 13 0 ∷ get_or fs 14 0 ∷ stage i ∷ get_or fs 16 0 ∷ get_or fs 17 0 ∷ get_or fs 18 0 ∷ get_or fs 19 0 ∷ get_or fs 20 0 ∷ get_or fs 21 0 ∷ get_or fs 22 0 ∷ get_or fs 23 0 ∷ get_or fs 24 0 ∷ []

-- the consist stands in the front
in_front : (s : List ℕ) → size ≤ length s → take 16 (drop held.own (take size s)) ≡ take 16 (drop held.own s)
in_front s h =
    ap (λ (t : List ℕ). take 16 (drop held.own t)) (take-add held.own 20 s)
    ∙ ap (take 16) (drop_at (take held.own s) (take 20 (drop held.own s)) held.own (length-take-le held.own s (omega arith)))
    ∙ take-take 16 20 (drop held.own s) (omega arith)

-- what stands behind a front is its blocks, so many, with their check word
behind_found : (n : ℕ) (s : List ℕ) → Bytes s → length s ≡ behind_for n → (0 < n → is_sealed s ≡ true) → behind_of n (take (4 * n) s) ≡ s
unfolding FoundSealed
behind_found zero s b l h = sym (nil s l)
behind_found (suc n) s b l h =
    let e : 4 * suc n ≡ length s - 4 = omega arith in
    ap (λ (k : ℕ). sealed (take k s)) e ∙ sym (found_sealed s b (h (omega arith)))

behind_least : (n : ℕ) → 4 * n ≤ behind_for n
behind_least zero = omega arith
behind_least (suc n) = omega arith

module _ (s : List ℕ) (by : Bytes s) (r : IsRecord s) (right : is_broken s ≡ false) where
  abbrev n : ℕ
  n = count_at s

  behind_long : length (behind_at s) ≡ behind_for n
  behind_long = simp length-drop (omega (arith, r.long))

  blocks_long : length (blocks_at s) ≡ 4 * n
  blocks_long = length-take-le (4 * n) (behind_at s) (omega (arith, behind_long, behind_least n))

  laid : is_laid_out (blocks_at s) ≡ true
  unfolding is_broken
  laid = (blocks_back.not_broken (blocks_at s) _ _ right).0

  laid_many : (lay_of (blocks_at s)).count ≡ n
  laid_many = blocks_back.laid_count (blocks_at s) laid ∙ ap (λ (k : ℕ). k / 4) blocks_long ∙ mul-div_cancel_left n {n = 4} (omega arith)

  same_front : front_of (session_in s) ≡ front_at s
  unfolding session_in front_of consist.consist_in consist.front_of FoundSealed
  same_front =
      let c = consist.with_blocks (consist.consist_in (consist_at s)) (lay_of (blocks_at s)) in
      let f = front_at s in
      let bf = bytes_take size s by in
      let l : length f ≡ size = length-take-le size s (omega (arith, r.long)) in
      let at = fields_at_lem f bf l in
      let k : length (take held.own f) ≡ held.own = simp length-take (omega (arith, l)) in
      let own =
      (λ i. bytes_from held.own widths (fields_of (of_fields (at i) c)))
      ∙ ap (bytes_from held.own widths)
      (to_fields (num (take held.own f)) c
      (subst (Right c) at (r.front.marked ∙ ap mark_for (sym laid_many), r.front.state, r.front.stage)))
      ∙ bytes_of_fields held.own widths refl (take held.own f) (bytes_take held.own f bf) k in
      let m : length (take 16 (consist_at s)) ≡ 16 = simp (length-take, length-drop) (omega (arith, r.long)) in
      let behind =
      bytes_of_fields 16 consist.widths refl (take 16 (consist_at s)) (bytes_take 16 (consist_at s) (bytes_take 16 (drop held.own s) (bytes_drop held.own s by))) m
      ∙ take-take 16 16 (drop held.own s) (omega arith)
      ∙ sym (in_front s (omega (arith, r.long))) in
      ap sealed (ap₂ ◌++◌ own behind ∙ sym (take-add held.own 16 f) ∙ (λ i. take (sym l i - 4) f))
      ∙ sym (found_sealed f bf r.front.seal)

  same_behind : behind_of (lay_of (blocks_at s)).count (blocks.bytes_of (lay_of (blocks_at s))) ≡ behind_at s
  same_behind =
      ap₂ behind_of laid_many (blocks_back.laid_back (blocks_at s) laid (bytes_take (4 * n) (behind_at s) (bytes_drop size s by)))
      ∙ behind_found n (behind_at s) (bytes_drop size s by) behind_long r.behind

  same_bits : bytes_of (session_in s) ≡ s
  unfolding bytes_of session_in
  same_bits = ap₂ ◌++◌ same_front same_behind ∙ take-append-drop size s

pub accepted_writes_back : AcceptedWritesBack
unfolding AcceptedWritesBack read_session
accepted_writes_back s out b room h =
    let i = read_inv s h in
    let same = same_bits s b i.0 i.2 in
    let long : size_of (session_in s) ≡ length s = sym (size_of_lem (session_in s)) ∙ ap length same in
    (λ j. write_session (kept (h j) (session_in s) none_open) out)
    ∙ write_accepted (session_in s) out i.1 (subst (λ (k : ℕ). k ≤ length out) (sym long) room)
    ∙ ap₂ (λ (t : List ℕ) (k : ℕ). (Accepted, t ++ drop k out)) same long
