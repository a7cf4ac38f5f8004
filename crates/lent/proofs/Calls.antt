-- The calls with the session in lent bytes, step by step: what opening writes, and what a sample call tells and leaves. Assumes nothing.
use mathlib.Core.Path.{◌≡◌, refl, sym, ap, ◌∙◌}
use mathlib.Core.Bool.{Bool, true, false, not, ◌&&◌, ◌||◌, cond}
use mathlib.Core.List.{List, [], ◌∷◌, ◌++◌, append_assoc}
use Prim.Native.Nat.{ℕ, zero, suc, ◌+◌, ◌-◌, ◌≤◌, ◌<◌}
use native.Mathlib.Decide.{dec_lt}
use native.Mathlib.Omega.{arith}
use lib.Dec.{ltb, leb, eqb}
use lib.ListN.{length, take, drop, length-append, length-replicate}
use lib.Seq.{length-take-le, take-append-add, drop-append-le}
use borrow.Author.Tests.{ltb-false}
use Rattle.refusal.specs.Lowest.{lowest}
use Rattle.refusal.specs.Number.{number_of, number_of_verdict, told}
use Rattle.refusal.specs.Written.{no_room, written}
use Rattle.refusal.specs.declared.Refusal.{Refusal}
use Rattle.refusal.specs.declared.Refusal.TheVariants.{NoSession, WrongLength, OutOfRange, TooLight, NoRoom, BrokenBlocks}
use Rattle.refusal.specs.Verdict.{Verdict, Accepted, Refused}
use Rattle.refusal.proofs.Order.{last_passed}
use Rattle.refusal.proofs.Numbers.{verdict_accepted}
use Rattle.refusal.proofs.Steps.{first_of, in_order}
use Rattle.consist.specs.Consist.{consist_in, too_short, out_of_range, too_light, broken_behind, read_rules, read_consist}
use Rattle.consist.specs.Consist as consist
use Rattle.brake.specs.declared.Choice.{Choice}
use Rattle.session.specs.declared.Session.{Session}
use Rattle.session.specs.Session.{Answer, is_open, none_open, call_told}
use Rattle.session.specs.Open.{opened_with, opened_by, open_of}
use Rattle.sampling.specs.Sample.{sample_call}
use Rattle.sampling.specs.Laws.{OpensOpen, StaysOpen}
use Rattle.held.specs.Held.{size_of, most, record_at, session_in, bytes_of, no_session, answer, read_session, write_session}
use Rattle.lent.specs.Lent.{zeros, buffer_of, open_rules, open_bytes, with_room, Sampled, call_bytes, sampled_by, sample_bytes, is_open_bytes, application_bytes}
use Rattle.sampling.proofs.Laws.{opens_open, stays_open}
use Rattle.session.proofs.Told.{call_one}
use Rattle.held.proofs.Sizes.{no_buffer}
use Rattle.held.proofs.Answers.{read_inv, read_is, size_of_lem, write_accepted, in_most}

-- ---- a session's buffer

take-zeros : (k m : ℕ) → k ≤ m → take k (zeros m) ≡ zeros k
take-zeros zero m h = refl
take-zeros (suc k) zero h = absurd (omega arith)
take-zeros (suc k) (suc m) h = ap (λ (l : List ℕ). 0 ∷ l) (take-zeros k m (omega arith))

drop-zeros : (k m : ℕ) → drop k (zeros m) ≡ zeros (m - k)
drop-zeros zero m = let e : m ≡ m - 0 = omega arith in ap zeros e
drop-zeros (suc k) zero = let e : 0 ≡ 0 - suc k = omega arith in ap zeros e
drop-zeros (suc k) (suc m) = let e : m - k ≡ suc m - suc k = omega arith in drop-zeros k m ∙ ap zeros e

pub buffer_size : (x : Session) → length (buffer_of x) ≡ most
unfolding buffer_of
buffer_size x = length-take-le most (bytes_of x ++ zeros most) (simp (length-append, length-replicate) (omega arith))

-- an open session's record fits, and zeros are left behind it
module _ (x : Session) (o : is_open x ≡ true) where
  pub buffer_is : buffer_of x ≡ bytes_of x ++ zeros (most - size_of x)
  unfolding buffer_of
  buffer_is =
      let n : most ≡ length (bytes_of x) + (most - size_of x) = omega (arith, size_of_lem x, in_most x o) in
      ap (λ (k : ℕ). take k (bytes_of x ++ zeros most)) n
      ∙ take-append-add (bytes_of x) (zeros most) (most - size_of x)
      ∙ ap (λ (l : List ℕ). bytes_of x ++ l) (take-zeros (most - size_of x) most (omega arith))

  -- the record written over zeros
  pub buffer_put : (z s left : List ℕ) {n : ℕ} → z ≡ zeros most → (n, left) ≡ told (write_session x (z ++ s)) → left ≡ buffer_of x ++ s
  buffer_put z s left c e =
      let m : size_of x ≤ length (zeros most) = simp length-replicate (in_most x o) in
      let room : size_of x ≤ length (zeros most ++ s) = simp length-append (omega arith) in
      ap (λ (t : ℕ × List ℕ). t.1) e
      ∙ ap (λ (l : List ℕ). (write_session x (l ++ s)).1) c
      ∙ ap (λ (w : Verdict × List ℕ). w.1) (write_accepted x (zeros most ++ s) o room)
      ∙ ap (λ (l : List ℕ). bytes_of x ++ l) (drop-append-le (size_of x) (zeros most) s m ∙ ap (λ (l : List ℕ). l ++ s) (drop-zeros (size_of x) most))
      ∙ sym (append_assoc (bytes_of x) (zeros (most - size_of x)) s)
      ∙ ap (λ (l : List ℕ). l ++ s) (sym buffer_is)

-- ---- opening

-- 12 stands between 5 and 13
between : (short range light full broken : Bool) →
    let n = number_of_verdict (first_of ((short, WrongLength) ∷ (range, OutOfRange) ∷ (light, TooLight) ∷ (broken, BrokenBlocks) ∷ [])) in
    number_of_verdict (first_of ((short, WrongLength) ∷ (range, OutOfRange) ∷ (light, TooLight) ∷ (full, NoRoom) ∷ (broken, BrokenBlocks) ∷ []))
    ≡ cond (full && (eqb n 0 || leb 12 n)) 12 n
between true range light true broken = refl
between true range light false broken = refl
between false true light true broken = refl
between false true light false broken = refl
between false false true true broken = refl
between false false true false broken = refl
between false false false true true = refl
between false false false true false = refl
between false false false false broken = refl

-- told 0: there is room, and the consist is told 0
with_room_none : (full : Bool) (n : ℕ) → cond (full && (eqb n 0 || leb 12 n)) 12 n ≡ 0 → (full ≡ false) × (n ≡ 0)
with_room_none false n h = (refl, h)
with_room_none true zero h = absurd (omega arith)
with_room_none true (suc n) h = absurd (by (eqb (suc n) 0 || leb 12 (suc n)) h)
  where
    by : (b : Bool) → cond b 12 (suc n) ≡ 0 → ⊥
    by true e = omega arith
    by false e = omega arith

module _ (c : List ℕ) (choice : Choice) where
  -- what its consist is told by itself
  abbrev pub alone : ℕ
  alone = number_of_verdict (open_of none_open c choice).verdict

  open_answers : lowest (read_rules c) ≡ Accepted → open_of none_open c choice ≡ record { session = opened_with (consist_in c) choice; verdict = Accepted }
  unfolding open_of read_consist
  open_answers h = ap (λ (v : Verdict). opened_by none_open (consist.answer v (consist_in c)) choice) h

  module _ (s : List ℕ) where
    open_number : number_of_verdict (lowest (open_rules c s)) ≡ with_room alone (length s)
    unfolding open_of read_consist no_room
    open_number =
        ap number_of_verdict (in_order (open_rules c s) tt)
        ∙ between (too_short c) (out_of_range (consist_in c)) (too_light (consist_in c)) (no_room most s) (broken_behind c)
        ∙ sym (ap (λ (v : Verdict). with_room (number_of_verdict v) (length s)) (in_order (read_rules c) tt))

    pub open_refused : {n : ℕ} → n ≡ with_room alone (length s) → (n ≡ 0 → ⊥) → (n, s) ≡ open_bytes c s choice
    unfolding open_bytes
    open_refused {n} h some = by (lowest (open_rules c s)) (h ∙ sym open_number)
      where
        by : (v : Verdict) → n ≡ number_of_verdict v → (n, s) ≡ told (written v (buffer_of (opened_with (consist_in c) choice)) s)
        by Accepted e = absurd (some e)
        by (Refused r) e = ap (λ (m : ℕ). (m, s)) e

    module _ (h : with_room alone (length s) ≡ 0) where
      pub open_room : most ≤ length s
      open_room = ltb-false (length s) most (with_room_none (ltb (length s) most) alone h).0

      consist_right : lowest (read_rules c) ≡ Accepted
      unfolding open_of read_consist
      consist_right = verdict_accepted (lowest (read_rules c)) (with_room_none (ltb (length s) most) alone h).1

      pub opened_open : is_open (open_of none_open c choice).session ≡ true
      unfolding OpensOpen
      opened_open = opens_open none_open c choice (ap (λ (a : Answer). a.verdict) (open_answers consist_right))

      pub open_accepted : {left : List ℕ} → left ≡ buffer_of (open_of none_open c choice).session ++ drop most s → (0, left) ≡ open_bytes c s choice
      unfolding open_bytes
      open_accepted e =
          let x = opened_with (consist_in c) choice in
          ap (λ (l : List ℕ). (0, l))
          (e
          ∙ ap (λ (a : Answer). buffer_of a.session ++ drop most s) (open_answers consist_right)
          ∙ ap (λ (n : ℕ). buffer_of x ++ drop n s) (sym (buffer_size x)))
          ∙ sym (ap (λ (v : Verdict). told (written v (buffer_of x) s)) (verdict_accepted (lowest (open_rules c s)) (open_number ∙ h)))

-- ---- the session that bytes are

module _ (b : List ℕ) where
  pub one_held : no_session b ≡ false → read_session b ≡ answer Accepted (session_in b)
  unfolding read_session
  one_held h = ap (λ (v : Verdict). answer v (session_in b)) (last_passed (no_session b) NoSession h)

  -- the number that it is read with
  number_read : (n : Bool) → no_session b ≡ n → number_of_verdict (read_session b).0 ≡ number_of_verdict (first_of ((n, NoSession) ∷ []))
  number_read n e = ap (λ (a : Verdict × Session). number_of_verdict a.0) (read_is b n e)

  pub none_number : no_session b ≡ true → number_of_verdict (read_session b).0 ≡ 1
  none_number = number_read true

  pub one_number : no_session b ≡ false → number_of_verdict (read_session b).0 ≡ 0
  one_number = number_read false

  -- one that stands at the start stands in a buffer
  pub whole : (read_session (record_at b)).0 ≡ Accepted → most ≤ length b
  whole e = by (dec_lt (length b) most)
    where
      by : Dec (length b < most) → most ≤ length b
      by (yes l) = absurd (omega (arith, (read_inv (record_at b) e).0.long, ap length (no_buffer b l)))
      by (no l) = omega arith

-- ---- the time in force

apart : (r : Refusal) → Accepted ≡ Refused r → ⊥
apart r e = let z : ◌≡◌ {A = ℕ} 0 1 = cc in omega arith

module _ (b : List ℕ) where
  abbrev time_by : Bool → ℕ
  time_by none = cond (not none) (session_in (record_at b)).consist.application 0

  pub time_of_none : (r : Refusal) → (read_session (record_at b)).0 ≡ Refused r → 0 ≡ application_bytes b
  unfolding application_bytes is_open_bytes
  time_of_none r e = by (no_session (record_at b)) refl
    where
      by : (n : Bool) → no_session (record_at b) ≡ n → 0 ≡ time_by (no_session (record_at b))
      by true h = sym (ap time_by h)
      by false h = absurd (apart r (sym (ap (λ (a : Verdict × Session). a.0) (one_held (record_at b) h)) ∙ e))

  pub time_of_one : (y : Session) → read_session (record_at b) ≡ (Accepted, y) → y.consist.application ≡ application_bytes b
  unfolding application_bytes is_open_bytes
  time_of_one y e = by (no_session (record_at b)) refl
    where
      by : (n : Bool) → no_session (record_at b) ≡ n → y.consist.application ≡ time_by (no_session (record_at b))
      by true h = absurd (apart NoSession (sym (ap (λ (a : Verdict × Session). a.0) e) ∙ ap (λ (a : Verdict × Session). a.0) (read_is (record_at b) true h)))
      by false h = ap (λ (a : Verdict × Session). a.1.consist.application) (sym e ∙ one_held (record_at b) h) ∙ sym (ap time_by h)

-- ---- a sample call

module _ (b s p t out : List ℕ) where
  abbrev pub by_read : Verdict × Session → Sampled
  by_read r = sampled_by r.0 r.1 b s p t out

  -- a record that is no open session's
  pub sample_unread : {n : ℕ} {r : Refusal} → n ≡ number_of r → (read_session (record_at b)).0 ≡ Refused r → (n, b, out) ≡ sample_bytes b s p t out
  unfolding sample_bytes
  sample_unread h e = ap (λ (m : ℕ). (m, b, out)) h ∙ sym (ap (λ (v : Verdict). sampled_by v (read_session (record_at b)).1 b s p t out) e)

  -- then the call of its session, refused or accepted: its next one is put then, for an open session stays one
  module _ (y : Session) (e : read_session (record_at b) ≡ (Accepted, y)) (a : Answer) (left : List ℕ) (promised : call_told (a, left) ≡ call_told (sample_call y s p t out)) where
    call : (a, left) ≡ sample_call y s p t out
    call = call_one (a, left) (sample_call y s p t out) promised

    called : call_bytes (a, left) b ≡ sample_bytes b s p t out
    unfolding sample_bytes
    called = ap (λ (q : Answer × List ℕ). call_bytes q b) call ∙ sym (ap by_read e)

    pub sample_refused : {n : ℕ} {r : Refusal} → n ≡ number_of r → a.verdict ≡ Refused r → (n, b, left) ≡ sample_bytes b s p t out
    sample_refused h v =
        ap (λ (m : ℕ). (m, b, left)) h
        ∙ sym (ap (λ (w : Verdict). (number_of_verdict w, (written w (buffer_of a.session) b).1, left)) v)
        ∙ called

    pub next_open : a.verdict ≡ Accepted → is_open a.session ≡ true
    unfolding StaysOpen
    next_open v =
        let same = ap (λ (q : Answer × List ℕ). q.0) call in
        ap (λ (q : Answer). is_open q.session) same ∙ stays_open y s p t out (ap (λ (q : Answer). q.verdict) (sym same) ∙ v)

    pub sample_accepted : {record_left : List ℕ} → record_left ≡ buffer_of a.session ++ drop most b → a.verdict ≡ Accepted
        → (0, record_left, left) ≡ sample_bytes b s p t out
    sample_accepted {record_left} f v =
        ap (λ (l : List ℕ). (0, l, left)) (f ∙ ap (λ (n : ℕ). buffer_of a.session ++ drop n b) (sym (buffer_size a.session)))
        ∙ sym (ap (λ (u : Verdict). (number_of_verdict u, (written u (buffer_of a.session) b).1, left)) v)
        ∙ called
