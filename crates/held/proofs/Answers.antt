-- What the reader and the writer answer, and what the answers tell. No function's answer: lemmas that the two readers cite. Assumes nothing.
use mathlib.Core.Path.{◌≡◌, refl, sym, ap, ap₂, ◌∙◌}
use Prim.Native.Nat.{ℕ, zero, suc, ◌+◌, ◌-◌, ◌*◌, ◌≤◌, ◌<◌}
use native.Mathlib.Omega.{arith}
use mathlib.Core.Bool.{Bool, true, false, not, ◌||◌, not-eq-not}
use mathlib.Core.List.{List, [], ◌∷◌, ◌++◌}
use lib.ListN.{length, get_or, take, drop, length-append, length-take, length-drop, drop_of_length-le}
use lib.Dec.{eqb, ltb}
use borrow.Author.Tests.{le-ltb, ltb-false, eqb-true, ne_eqb, not-false}
use Rattle.bits.specs.Fields.{split, Fit}
use Rattle.bits.specs.Bytes.{eights}
use Rattle.bits.proofs.Bit.{bit_fits}
use Rattle.bits.proofs.Ranges.{neither}
use Rattle.std.specs.Prelude.{Result}
use Rattle.refusal.specs.Number.{answer_of}
use Rattle.refusal.specs.Steps.{kept}
use Rattle.refusal.specs.Written.{no_room, written}
use Rattle.refusal.specs.declared.Refusal.{Refusal}
use Rattle.refusal.specs.declared.Refusal.TheVariants.{NoSession, NoRoom}
use Rattle.refusal.specs.Verdict.{Verdict, Accepted, Refused}
use Rattle.refusal.proofs.Order.{accepted, written_accepted}
use Rattle.refusal.specs.Lowest.{lowest}
use Rattle.refusal.proofs.Steps.{first_of, in_order}
use Rattle.record.specs.Record.{wrong_length}
use Rattle.seal.specs.Seal.{check_word, sealed, is_sealed}
use Rattle.blocks.specs.Blocks as blocks
use Rattle.blocks.specs.Blocks.{lay_of}
use Rattle.blocks.proofs.Bytes.{length_bytes}
use Rattle.blocks.proofs.Computing.{computing}
use Rattle.consist.specs.declared.Consist.{Consist}
use Rattle.consist.specs.Consist as consist
use Rattle.consist.proofs.Answers as consist_answers
use Rattle.consist.proofs.Sound as consist_sound
use Rattle.brake.proofs.StateNumbers.{number_most}
use Rattle.brake.proofs.Rear.{choice_most}
use Rattle.learn.proofs.Stages.{stage_number_most}
use Rattle.session.specs.declared.Session.{Session}
use Rattle.session.specs.Session.{Answer, is_open, none_open}
use Rattle.session.proofs.Opened.{opened}
use Rattle.session.proofs.Told.{answer_one}
use Rattle.held.specs.Held.{size, mark_for, count_in, wrong_mark, behind_for, size_for, size_of, most, widths, fields_of, of_fields, front_of, behind_of, bytes_of, fields_at, front_at, behind_at, count_at, blocks_at, consist_at, session_in, no_front, no_behind, no_record, is_broken, no_session, answer, read_told, read_rules, read_session, read_front, write_rules, write_session}
use Rattle.held.proofs.Sizes.{size_some, size_none, some_blocks, size_most, mark_back, mark_fits}

-- what is told of a reading tells it
pub read_tells : (x y : Verdict × Session) → read_told x ≡ read_told y → x ≡ y
read_tells x y h = ap (λ (a : Answer). (a.verdict, a.session)) (answer_one (record { session = x.1; verdict = x.0 }) (record { session = y.1; verdict = y.0 }) h)

-- and what a caller knows when it has taken the reading apart
pub read_of : (x : Verdict × Session) (r s : Result Session Refusal) → read_told (answer_of none_open r) ≡ read_told x → r ≡ s → x ≡ answer_of none_open s
read_of x r s e h = sym (read_tells _ x e) ∙ ap (answer_of none_open) h

-- ---- bytes that are a record

pub record IsFront (s : List ℕ) : Type 0 where
  pub seal : is_sealed s ≡ true
  pub marked : get_or (fields_at s) 0 0 ≡ mark_for (count_in (get_or (fields_at s) 0 0))
  pub state : get_or (fields_at s) 5 0 ≤ 5
  pub stage : get_or (fields_at s) 15 0 ≤ 4

is_front : (s : List ℕ) → no_front s ≡ false → IsFront s
unfolding no_front
is_front s h =
    let m = get_or (fields_at s) 0 0 in
    let w = neither (not (is_sealed s) || wrong_mark m || ltb 5 (get_or (fields_at s) 5 0)) (ltb 4 (get_or (fields_at s) 15 0)) h in
    let x = neither (not (is_sealed s) || wrong_mark m) (ltb 5 (get_or (fields_at s) 5 0)) w.0 in
    let y = neither (not (is_sealed s)) (wrong_mark m) x.0 in
    record {
      seal = not-false (is_sealed s) y.0;
      marked = mark_back m y.1;
      state = ltb-false 5 (get_or (fields_at s) 5 0) x.1;
      stage = ltb-false 4 (get_or (fields_at s) 15 0) w.1;
    }

pub record IsRecord (s : List ℕ) : Type 0 where
  pub long : length s ≡ size_for (count_at s)
  pub front : IsFront (front_at s)
  -- where there are blocks
  pub behind : 0 < count_at s → is_sealed (behind_at s) ≡ true

behind_sealed : (n : ℕ) (s : List ℕ) → no_behind n s ≡ false → 0 < n → is_sealed s ≡ true
behind_sealed zero s h some = absurd (omega arith)
behind_sealed (suc n) s h some = not-false (is_sealed s) h

apart : (r : Refusal) → Accepted ≡ Refused r → ⊥
apart r e = let z : ◌≡◌ {A = ℕ} 0 1 = cc in omega arith

-- no block at all is right
none_right : (l w : ℕ) → blocks.is_broken [] l w ≡ false
unfolding computing
none_right l w = refl

module _ (s : List ℕ) where
  pub is_record : no_record s ≡ false → IsRecord s
  unfolding no_record wrong_length
  is_record h =
      let l = eqb (length s) (size_for (count_at s)) in
      let x = neither (not l || no_front (front_at s)) (no_behind (count_at s) (behind_at s)) h in
      let y = neither (not l) (no_front (front_at s)) x.0 in
      record {
        long = eqb-true (length s) (size_for (count_at s)) (not-false l y.0);
        front = is_front (front_at s) y.1;
        behind = behind_sealed (count_at s) (behind_at s) x.1;
      }

  -- ---- the reader

  -- fewer bytes than a front has
  pub too_short : length s < size → no_session s ≡ true
  unfolding no_session no_record wrong_length
  too_short h =
      ap (λ (b : Bool). not b || no_front (front_at s) || no_behind (count_at s) (behind_at s) || is_broken s || not (is_open (session_in s)))
      (ne_eqb (length s) (size_for (count_at s)) (λ e. omega arith))

  pub held_open : no_session s ≡ false → IsRecord s × (is_open (session_in s) ≡ true) × (is_broken s ≡ false)
  unfolding no_session
  held_open h =
      let n = neither (no_record s || is_broken s) (not (is_open (session_in s))) h in
      let m = neither (no_record s) (is_broken s) n.0 in
      (is_record m.0, not-false (is_open (session_in s)) n.1, m.1)

  pub read_inv : (read_session s).0 ≡ Accepted → IsRecord s × (is_open (session_in s) ≡ true) × (is_broken s ≡ false)
  unfolding read_session
  read_inv h = held_open (accepted _ _ _ h).0

  pub read_is : (b : Bool) → no_session s ≡ b → read_session s ≡ answer (first_of ((b, NoSession) ∷ [])) (session_in s)
  unfolding read_session
  read_is b h = rw (in_order (read_rules s) tt, h)

  -- a record whose blocks are not broken is read as its front with the consist
  pub read_open : no_record s ≡ false → is_broken s ≡ false → (c : Consist) → c ≡ consist.with_blocks (consist.consist_in (consist_at s)) (lay_of (blocks_at s))
      → read_front (front_at s) c ≡ read_session s
  unfolding read_session read_front no_session session_in
  read_open h b c e =
      ap (λ (d : Consist). let x = of_fields (fields_at (front_at s)) d in answer (lowest ((not (is_open x), NoSession) ∷ [])) x) e
      ∙ sym (ap (λ (n : Bool). answer (lowest ((n || not (is_open (session_in s)), NoSession) ∷ [])) (session_in s)) (ap₂ ◌||◌ h b))

  -- ---- its consist

  pub consist_accepted : (consist.read_consist (consist_at s)).0 ≡ Accepted → (consist.read_consist (consist_at s)).1 ≡ consist.consist_in (consist_at s)
  unfolding consist.read_consist
  consist_accepted h i = kept (h i) (consist.consist_in (consist_at s)) consist.none

  module _ (l : size ≤ length s) where
    consist_long : length (consist_at s) ≡ 16
    consist_long = simp (length-take, length-drop) (omega arith)

    -- it has no blocks of its own
    consist_alone : drop 16 (consist_at s) ≡ []
    consist_alone = drop_of_length-le (consist_at s) {i = 16} (omega (arith, consist_long))

    pub none_own : (consist.consist_in (consist_at s)).blocks ≡ lay_of []
    unfolding consist.consist_in
    none_own = ap lay_of consist_alone

    own_right : consist.broken_behind (consist_at s) ≡ false
    unfolding consist.broken_behind
    own_right =
        let c = consist.consist_in (consist_at s) in
        ap (λ (z : List ℕ). blocks.is_broken z c.length c.weight) consist_alone ∙ none_right c.length c.weight

    -- where it is refused, no session is open
    pub consist_refused : (r : Refusal) → (consist.read_consist (consist_at s)).0 ≡ Refused r → is_open (session_in s) ≡ false
    unfolding session_in consist.in_range consist.too_light consist.too_short
    consist_refused r h = (not-eq-not {a = is_open (session_in s)} {b = false}).0 (λ e.
        let c = consist_sound.is_sound_lem _ (opened (session_in s) e).tested in
        let n = consist_answers.read_is (consist_at s) false false false false (le-ltb (length (consist_at s)) 16 (omega (arith, consist_long))) c.0 c.1 own_right in
        absurd (apart r (sym (ap (λ (a : Verdict × Consist). a.0) n) ∙ h)))

  -- without blocks the record is the front, and the consist in it is that of the session
  module _ (h : length s ≡ size) (r : IsRecord s) where
    pub count_zero : count_at s ≡ 0
    count_zero = size_none (count_at s) (sym r.long ∙ h)

    none_at : blocks_at s ≡ []
    none_at = ap (λ (n : ℕ). take (4 * n) (behind_at s)) count_zero

    pub none_broken : is_broken s ≡ false
    unfolding is_broken
    none_broken =
        let c = consist.consist_in (consist_at s) in
        ap (λ (z : List ℕ). blocks.is_broken z c.length c.weight) none_at ∙ none_right c.length c.weight

    pub same_consist : consist.consist_in (consist_at s) ≡ consist.with_blocks (consist.consist_in (consist_at s)) (lay_of (blocks_at s))
    same_consist = ap (consist.with_blocks (consist.consist_in (consist_at s))) (none_own (omega arith) ∙ sym (ap lay_of none_at))

  -- with blocks, it is longer; they are all that is behind the front, but for the check word
  module _ (h : length s ≡ size → ⊥) (r : IsRecord s) where
    pub count_above : 0 < count_at s
    count_above = some_blocks (count_at s) (λ e. h (r.long ∙ e))

    pub long_with : length s ≡ size + 4 + 4 * count_at s
    long_with = r.long ∙ size_some (count_at s) count_above

    pub blocks_behind : take (length s - 4 - size) (behind_at s) ≡ blocks_at s
    blocks_behind = let e : length s - 4 - size ≡ 4 * count_at s = omega (arith, long_with) in ap (λ (n : ℕ). take n (behind_at s)) e

-- ---- the writer

pub length-sealed : (s : List ℕ) → length (sealed s) ≡ length s + 4
unfolding sealed
length-sealed s = length-append s (split (eights 4) (check_word s))

length_behind : (n : ℕ) (s : List ℕ) → length s ≡ 4 * n → length (behind_of n s) ≡ behind_for n
length_behind zero s h = refl
length_behind (suc n) s h = length-sealed s ∙ omega arith

module _ (x : Session) where
  pub front_size : length (front_of x) ≡ size
  unfolding front_of sealed consist.front_of
  front_size = refl

  pub behind_size : length (behind_of x.consist.blocks.count (blocks.bytes_of x.consist.blocks)) ≡ behind_for x.consist.blocks.count
  behind_size = length_behind x.consist.blocks.count _ (length_bytes x.consist.blocks)

  pub size_of_lem : length (bytes_of x) ≡ size_of x
  unfolding bytes_of
  size_of_lem = length-append (front_of x) _ ∙ ap₂ ◌+◌ front_size behind_size

  module _ (out : List ℕ) where
    pub write_is : (a b : Bool) → not (is_open x) ≡ a → no_room (size_of x) out ≡ b → write_session x out ≡ written (first_of ((a, NoSession) ∷ (b, NoRoom) ∷ [])) (bytes_of x) out
    unfolding write_session
    write_is a b h i = rw (in_order (write_rules x out) tt, h, i)

    pub write_accepted : is_open x ≡ true → size_of x ≤ length out → write_session x out ≡ (Accepted, bytes_of x ++ drop (size_of x) out)
    unfolding no_room
    write_accepted o h = write_is false false (ap not o) (le-ltb (length out) (size_of x) h) ∙ ap (λ (n : ℕ). (Accepted, bytes_of x ++ drop n out)) size_of_lem

    pub write_inv : (write_session x out).0 ≡ Accepted → (is_open x ≡ true) × (size_of x ≤ length out)
    unfolding write_session no_room
    write_inv h =
        let o = accepted _ _ _ (written_accepted _ (bytes_of x) out h) in
        (not-false (is_open x) o.0, ltb-false (length out) (size_of x) (accepted _ _ _ o.1).0)

-- ---- an open session's fields fit, and its record is in the size of a buffer

module _ (x : Session) (h : is_open x ≡ true) where
  pub few : x.consist.blocks.count ≤ 64
  few = (opened x h).consist.blocks.few

  pub in_most : size_of x ≤ most
  in_most = size_most x.consist.blocks.count few

  pub fits : Fit widths (fields_of x)
  fits =
      let o = opened x h in
      let k = o.brake in
      let l = o.learner in
      let s = l.sums in
      omega (arith, stage_number_most x.learner.stage, l.since, l.init, l.last, l.pressure, s.count, s.times, s.squares, s.pressures, s.products, mark_fits x.consist.blocks.count few, number_most x.brake.state, choice_most x.brake.choice, bit_fits x.brake.sampled, o.cause, o.emergency, k.a, k.b, k.equalization, k.fall, k.hold, k.front, k.rear, k.time, k.heard, o.consist.ranged)
