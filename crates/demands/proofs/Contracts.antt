-- The contracts of the Rattle program and of the C library say what is defined, and how each holds a session. Assumes nothing.
use mathlib.Core.Path.{◌≡◌, refl, ap, subst, sym, ◌∙◌, ap₂}
use mathlib.Core.Bool.{true, Bool, false}
use mathlib.Core.List.{List, [], ◌∷◌, ◌++◌, append_assoc}
use Prim.Native.Nat.{ℕ, zero, suc, ◌-◌, ◌^◌, ◌≤◌, ◌<◌}
use native.Mathlib.Decide.{dec_lt}
use native.Mathlib.Omega.{arith}
use denote.Ref.{Bor}
use denote.MutBor.{MutBor}
use lib.ListN.{length, get_or, drop, replicate, length-append, length-drop}
use lib.Seq.{drop_at}
use borrow.Author.Tests.{le-ltb}
use Rattle.bits.proofs.Bit.{bit_fits}
use Rattle.bits.specs.Bytes.{Bytes}
use Rattle.bits.proofs.Bytes.{bytes_take, bytes_drop}
use Rattle.refusal.specs.Steps.{kept}
use Rattle.refusal.specs.declared.Refusal.{Refusal}
use Rattle.refusal.specs.Verdict.{Verdict, Accepted, Refused}
use Rattle.refusal.specs.Lowest.{lowest}
use Rattle.refusal.specs.Number.{number_of_verdict}
use Rattle.refusal.specs.Written.{no_room, written}
use Rattle.refusal.specs.declared.Refusal.TheVariants.{NoSession, WrongLength, NoRoom, BrokenBlocks}
use Rattle.refusal.proofs.Order.{last_passed}
use Rattle.refusal.proofs.Steps.{first_of, in_order}
use Rattle.refusal.proofs.Numbers.{verdict_one, one_first}
use Rattle.seal.proofs.Seals.{append_bytes}
use Rattle.blocks.specs.declared.Blocks.{Blocks}
use Rattle.blocks.specs.Blocks as blocks
use Rattle.blocks.specs.Blocks.{none}
use Rattle.blocks.specs.Sound as blocks_sound
use Rattle.blocks.proofs.Sound.{past_zero}
use Rattle.blocks.proofs.Sums.{length_most, weight_most}
use Rattle.consist.specs.Consist.{consist_in, too_short, rules, broken_behind, sound_blocks, read_rules, read_consist, answer}
use Rattle.consist.proofs.Sound as consist_sound
use Rattle.brake.proofs.StateNumbers.{number_most}
use Rattle.brake.specs.declared.Choice.{Choice}
use Rattle.brake.specs.declared.Choice.TheVariants.{FiveSeconds, Everlasting}
use Rattle.brake.specs.Rear.{choice_of}
use Rattle.brake.proofs.Rear.{choice_most}
use Rattle.session.specs.declared.Session.{Session}
use Rattle.session.specs.Session.{Answer, is_open, none_open, session_told, answer_told, call_told}
use Rattle.session.specs.Open.{open_of, opened_with, opened_by}
use Rattle.sampling.specs.Sample.{sample_call}
use Rattle.sampling.specs.Laws.{Lent}
use Rattle.session.proofs.Opened.{opened}
use Rattle.session.proofs.Told.{session_one, answer_one, call_one}
use Rattle.held.specs.Held as held
use Rattle.held.specs.Held.{size_of, most, record_at, bytes_of, session_in, no_session, read_session}
use Rattle.laws.specs.HeldDamage as damage
use Rattle.laws.proofs.HeldDamage as held_damage
use Rattle.laws.proofs.HeldTrip.{bytes_of_lem, bytes_read, start_is}
use Rattle.lent.specs.Lent.{zeros, buffer_of, open_rules, open_bytes, Sampled, sampled_by, sample_bytes}
use Rattle.lent.proofs.Calls.{buffer_size, buffer_is}
use Rattle.demands.specs.Machine.{Call, opening, sampling, Lends, Reply, Machine, call, ours, Unopened, carry, Does, Slice}
use Rattle.learn.proofs.Stages.{stage_number_most}
use Rattle.demands.specs.Program.{Words, FitsBlocks, FitsWords, by_value, our_program}
use Rattle.demands.specs.Program as program
use Rattle.demands.specs.Library.{in_bytes, our_library, DamageSeen}
use Rattle.demands.specs.Library as library
use Rattle.demands.proofs.Carried.{Lawful, refused_same, none_refuses}

-- ---- the Rattle program: sessions by value

-- zeros are small
zero_at : (k n : ℕ) {w : ℕ} → get_or (replicate n 0) k 0 < suc w
zero_at k zero = omega arith
zero_at zero (suc n) = omega arith
zero_at (suc k) (suc n) = zero_at k n

-- numbers that fit, place by place
words_of : (w : ℕ) (ns : List ℕ) → ((k : ℕ) → get_or ns k 0 < 2 ^ w) → Words w ns
words_of w [] h = tt
words_of w (n ∷ ns) h = (h 0, words_of w ns (λ k. h (suc k)))

-- sound blocks of a train whose length and weight fit 16 bits
blocks_fit : (b : Blocks) (l w : ℕ) → l < 2 ^ 16 → w < 2 ^ 16 → blocks.is_sound b l w ≡ true → blocks_sound.Sound b l w → FitsBlocks b
blocks_fit b l w hl hw t s = record {
  count = omega (arith, s.few);
  lengths_places = s.lengths_64;
  lengths = words_of 16 b.lengths (λ k. by (dec_lt k b.count) (λ h. omega (arith, length_most b l w s k h)) (λ h. omega (arith, (past_zero b l w t k (omega arith)).0)));
  weights_places = s.weights_64;
  weights = words_of 16 b.weights (λ k. by (dec_lt k b.count) (λ h. omega (arith, weight_most b l w s k h)) (λ h. omega (arith, (past_zero b l w t k (omega arith)).1)));
}
  where
    by : {k n : ℕ} {A : Type 0} → Dec (k < n) → (k < n → A) → ((k < n → ⊥) → A) → A
    by (yes h) f g = f h
    by (no h) f g = g h

-- an open session fits its words
open_fits : (x : Session) → is_open x ≡ true → FitsWords x
unfolding sound_blocks
open_fits x h =
    let o = opened x h in
    let k = o.brake in
    let l = o.learner in
    let s = l.sums in (
      omega (arith, o.consist.ranged),
      omega (arith, number_most x.brake.state, bit_fits x.brake.sampled, choice_most x.brake.choice, k.a, k.b, k.equalization, k.fall, k.hold, k.front, k.rear, k.time, k.heard),
      omega (arith, k.heard),
      omega (arith, stage_number_most x.learner.stage, l.since, l.init, l.last, l.pressure, s.count, s.times, s.squares, s.pressures, s.products),
      omega (arith, o.cause),
      omega (arith, o.emergency),
      blocks_fit x.consist.blocks x.consist.length x.consist.weight (omega (arith, o.consist.ranged)) (omega (arith, o.consist.ranged))
          (consist_sound.is_sound_lem x.consist o.tested).2 o.consist.blocks,
    )

pub value_lawful : Lawful by_value
value_lawful = record { fits = λ z x f o. open_fits x o; reads = λ z x o. refl; again = λ z x y. refl; apart = λ v w e. e }

-- a slice with these bytes; where it lies does not matter
unfoldable pub lent : List ℕ → Bor (List ℕ)
lent bytes = record { ref_ptr = (0, 0); now = bytes }

unfoldable pub lent_mut : List ℕ → MutBor (List ℕ)
lent_mut bytes = record { ref_ptr = (0, 0); ghost_name = 0; now = bytes }

unfoldable pub lent_session : Session → MutBor Session
lent_session x = record { ref_ptr = (0, 0); ghost_name = 0; now = x }

pub program_meets : (x : Session) → Unopened by_value x → program.Meets (our_program x)
program_meets x u = record {
  none = λ κs a y. ap session_told u.1;
  opens = λ κs a y f s h.
      let r = ours.opens a.0.now a.1.0.now a.1.1.0 in
      ap (λ (z : Session). answer_told (record { session = z; verdict = r.0 })) h;
  samples = λ κs a y f s h g.
      let r = ours.samples a.0.now (program.lent_to κs a) in
      ap₂ (λ (z : Session) (l : List ℕ). call_told (record { session = z; verdict = r.told }, l)) h g;
}

settled : (v : Verdict) (old new : Session) → ((r : Refusal) → v ≡ Refused r → new ≡ old) → new ≡ kept v new old
settled Accepted old new same = refl
settled (Refused r) old new same = same r refl

module _ (m : Machine Session Verdict) (met : program.Meets m) where
  pub program_begins : Unopened by_value m.none
  unfolding none
  program_begins =
      let zeros : Words 16 none.lengths = words_of 16 none.lengths (λ k. zero_at k 64) in
      let fits : FitsWords none_open = (omega arith, omega arith, omega arith, omega arith, omega arith, omega arith, record { count = omega arith; lengths_places = refl; lengths = zeros; weights_places = refl; weights = zeros }) in
      let e = session_one m.none none_open (met.none tt tt tt) in
      (subst FitsWords (sym e) fits, e)

  program_same : (x : Session) → FitsWords x → (k : Call) → Lends k → call m x k ≡ call ours x k
  unfolding lent lent_mut lent_session
  program_same x f (opening s choice) b =
      let r = m.opens x s choice in
      ap {B = Reply Session Verdict} (λ (a : Answer). record { told = a.verdict; state = a.session; out = [] })
      (answer_one _ (open_of x s choice) (met.opens ([], ([], tt)) (lent_session x, (lent s, (choice, tt))) (lent_session r.1, (lent s, (choice, tt))) f b refl))
  program_same x f (sampling l) b =
      let r = m.samples x l in
      ap {B = Reply Session Verdict} (λ (a : Answer × List ℕ). record { told = a.0.verdict; state = a.0.session; out = a.1 })
      (call_one _ (sample_call x l.sample l.profile l.targets l.out)
      (met.samples ([], ([], ([], ([], ([], tt))))) (lent_session x, (lent l.sample, (lent l.profile, (lent l.targets, (lent_mut l.out, tt)))))
      (lent_session r.state, (lent l.sample, (lent l.profile, (lent l.targets, (lent_mut r.out, tt))))) f b refl refl))

  pub program_does : Does by_value m
  program_does z x o k b =
      let r = call ours z k in
      program_same z o.0 k b
      ∙ ap {B = Reply Session Verdict} (λ (y : Session). record { told = r.told; state = y; out = r.out }) (settled r.told z r.state (refused_same z k))
      ∙ ap (λ (y : Session). carry by_value z (call ours y k)) o.1

-- ---- the C library: sessions in bytes

buffer_bytes : (x : Session) → Bytes (buffer_of x)
unfolding buffer_of
buffer_bytes x = bytes_take most (bytes_of x ++ zeros most) (append_bytes (bytes_of x) (zeros most) (bytes_of_lem x) (λ k. zero_at k most))

-- an open session's buffer begins with its record
buffer_start : (x : Session) → is_open x ≡ true → (z : List ℕ) → record_at (buffer_of x ++ z) ≡ bytes_of x
buffer_start x o z =
    let behind = zeros (most - size_of x) in
    let e = ap (λ (s : List ℕ). s ++ z) (buffer_is x o) ∙ append_assoc (bytes_of x) behind z in
    ap record_at e ∙ start_is x o (behind ++ z) (subst (λ (s : List ℕ). most ≤ length s) e (simp length-append (omega (arith, buffer_size x))))

pub bytes_lawful : Lawful in_bytes
bytes_lawful = record {
  fits = λ z x f o. (
    (append_bytes (buffer_of x) (drop most z) (buffer_bytes x) (bytes_drop most z f.0.0), simp (length-append, length-drop) (omega (arith, buffer_size x, f.0.1, f.1))),
    simp length-append (omega (arith, buffer_size x)),
  );
  reads = λ z x o.
      ap (λ (s : List ℕ). (read_session s).1) (buffer_start x o (drop most z)) ∙ ap (λ (a : Verdict × Session). a.1) (bytes_read x o);
  again = λ z x y. ap (λ (rest : List ℕ). buffer_of y ++ rest) (drop_at (buffer_of x) (drop most z) most (buffer_size x));
  apart = verdict_one;
}

pub library_meets : (z : List ℕ) → Unopened in_bytes z → library.Meets (our_library z)
library_meets z u = record {
  none = u;
  opens = λ κs a x f s h. ap {B = ℕ × List ℕ} (λ (b : List ℕ). ((open_bytes a.1.0.now a.0.now FiveSeconds).0, b)) h;
  opens_with = λ κs a x f s n h. ap {B = ℕ × List ℕ} (λ (b : List ℕ). ((open_bytes a.1.0.now a.0.now (choice_of a.1.1.0)).0, b)) h;
  samples = λ κs a x f s h g. ap₂ {C = Sampled} (λ (b out : List ℕ). (((our_library z).samples a.0.now (library.lent_to κs a)).told, b, out)) h g;
}

module _ (m : Machine (List ℕ) ℕ) (met : library.Meets m) where
  -- it replies as ours, however short the session's bytes
  library_same : (z : List ℕ) → Slice z → (k : Call) → Lends k → call m z k ≡ call (our_library z) z k
  unfolding lent lent_mut lent_session
  library_same z f (opening s FiveSeconds) b =
      ap {B = Reply (List ℕ) ℕ} (λ (r : ℕ × List ℕ). record { told = r.0; state = r.1; out = [] })
      (met.opens ([], ([], tt)) (lent_mut z, (lent s, tt)) (lent_mut (m.opens z s FiveSeconds).1, (lent s, tt)) f b refl)
  library_same z f (opening s Everlasting) b =
      ap {B = Reply (List ℕ) ℕ} (λ (r : ℕ × List ℕ). record { told = r.0; state = r.1; out = [] })
      (met.opens_with ([], ([], tt)) (lent_mut z, (lent s, (1, tt))) (lent_mut (m.opens z s Everlasting).1, (lent s, (1, tt))) f b (omega arith) refl)
  library_same z f (sampling l) b =
      let r = m.samples z l in
      ap {B = Reply (List ℕ) ℕ} (λ (r : Sampled). record { told = r.0; state = r.1; out = r.2 })
      (met.samples ([], ([], ([], ([], ([], tt))))) (lent_mut z, (lent l.sample, (lent l.profile, (lent l.targets, (lent_mut l.out, tt)))))
      (lent_mut r.state, (lent l.sample, (lent l.profile, (lent l.targets, (lent_mut r.out, tt))))) f b refl refl)

module _ (z : List ℕ) where
  -- a verdict leaves in the bytes what it does where the session is put in
  left : (v : Verdict) (x : Session) → (written v (buffer_of x) z).1 ≡ kept v (in_bytes.put z x) z
  left Accepted x = ap (λ (n : ℕ). buffer_of x ++ drop n z) (buffer_size x)
  left (Refused r) x = refl

  -- with room for the buffer, an opening is refused as its consist is
  open_verdict : most ≤ length z → (s : List ℕ) → lowest (open_rules s z) ≡ lowest (read_rules s)
  unfolding no_room
  open_verdict room s =
      in_order (open_rules s z) tt
      ∙ ap (λ (full : Bool). first_of ((too_short s, WrongLength) ∷ rules (consist_in s) ++ (full, NoRoom) ∷ (broken_behind s, BrokenBlocks) ∷ []))
      (le-ltb (length z) most room)
      ∙ sym (in_order (read_rules s) tt)

  opens_so : (x : Session) (v : Verdict) (s : List ℕ) (choice : Choice) →
      let r = written v (buffer_of (opened_with (consist_in s) choice)) z in
      ◌≡◌ {A = Reply (List ℕ) ℕ} (record { told = number_of_verdict r.0; state = r.1; out = [] })
      (record { told = number_of_verdict v; state = kept v (in_bytes.put z (opened_by x (answer v (consist_in s)) choice).session) z; out = [] })
  opens_so x Accepted s choice = ap (λ (b : List ℕ). record { told = 0; state = b; out = [] }) (left Accepted (opened_with (consist_in s) choice))
  opens_so x (Refused r) s choice = refl

  -- what a sample call leaves, by what the record that the bytes begin with is read as
  module _ (l : Lent) where
    abbrev by_read : Verdict × Session → Reply (List ℕ) ℕ
    by_read a =
        let r = sampled_by a.0 a.1 z l.sample l.profile l.targets l.out in
        record { told = r.0; state = r.1; out = r.2 }

    -- 1: no open session's record stands there
    none_held : no_session (record_at z) ≡ true → call (our_library z) z (sampling l) ≡ record { told = 1; state = z; out = l.out }
    unfolding sample_bytes read_session
    none_held n = ap (λ (v : Verdict). by_read (held.answer v (session_in (record_at z)))) (one_first (no_session (record_at z)) [] n)

    samples_so : (n : Bool) → no_session (record_at z) ≡ n → call (our_library z) z (sampling l) ≡ carry in_bytes z (call ours (in_bytes.session z) (sampling l))
    unfolding sample_bytes read_session
    samples_so true n =
        let none = ap (λ (v : Verdict). kept v (session_in (record_at z)) none_open) (one_first (no_session (record_at z)) [] n) in
        none_held n ∙ sym (ap (carry in_bytes z) (ap (λ (x : Session). call ours x (sampling l)) none ∙ none_refuses l))
    samples_so false n =
        let r = call ours (in_bytes.session z) (sampling l) in
        ap (λ (v : Verdict). by_read (v, in_bytes.session z)) (last_passed (no_session (record_at z)) NoSession n)
        ∙ ap {B = Reply (List ℕ) ℕ} (λ (b : List ℕ). record { told = number_of_verdict r.told; state = b; out = r.out }) (left r.told r.state)

  ours_does : most ≤ length z → (k : Call) → call (our_library z) z k ≡ carry in_bytes z (call ours (in_bytes.session z) k)
  unfolding open_bytes open_of read_consist
  ours_does room (opening s choice) =
      let v = lowest (read_rules s) in
      ap {B = Reply (List ℕ) ℕ} (λ (v : Verdict). let r = written v (buffer_of (opened_with (consist_in s) choice)) z in record { told = number_of_verdict r.0; state = r.1; out = [] })
      (open_verdict room s)
      ∙ opens_so (in_bytes.session z) v s choice
  ours_does room (sampling l) = samples_so l (no_session (record_at z)) refl

pub library_does : (m : Machine (List ℕ) ℕ) → library.Meets m → Does in_bytes m
library_does m met z x o k b = library_same m met z o.0.0 k b ∙ ours_does z o.0.1 k ∙ ap (λ (y : Session). carry in_bytes z (call ours y k)) o.1

-- ---- a damaged record, from what the check word tells

pub damage_seen : DamageSeen
unfolding DamageSeen damage.DamageSeen
damage_seen m met x z l o b lent d =
    library_same m met z b (sampling l) lent ∙ none_held z l (held_damage.damage_seen x z o b.0 d.0 d.1).1
