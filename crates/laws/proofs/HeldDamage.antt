-- Bytes that differ from an open session's record in one place, or in two, are no open session's. Assumes nothing.
use mathlib.Core.Path.{◌≡◌, refl, sym, ap, subst, ◌∙◌}
use Prim.Native.Nat.{ℕ, zero, suc, ◌+◌, ◌*◌, ◌≤◌, ◌<◌}
use native.Mathlib.Omega.{arith}
use native.Mathlib.Decide.{dec_lt}
use mathlib.Core.Bool.{true, false, true≢false, not-eq-not}
use mathlib.Core.List.{List, [], ◌∷◌}
use lib.ListN.{length, take, get_or, length-drop, take-append-drop}
use lib.Seq.{length-take-le, take-add, drop_at}
use Rattle.bits.specs.Bytes.{Bytes}
use Rattle.bits.proofs.Bytes.{bytes_take, bytes_drop}
use Rattle.seal.specs.Apart.{apart}
use Rattle.seal.specs.Seal.{is_sealed, sealed}
use Rattle.seal.specs.Seen.{SealedFound, OneSeen, TwoSeen}
use Rattle.seal.proofs.Apart.{none_apart, apart-append}
use Rattle.seal.proofs.Seals.{sealed_found, sealed_bytes}
use Rattle.seal.proofs.Seen.{one_seen, two_seen}
use Rattle.blocks.specs.declared.Blocks.{Blocks}
use Rattle.blocks.specs.Blocks as blocks
use Rattle.blocks.proofs.Bytes.{length_bytes}
use Rattle.session.specs.declared.Session.{Session}
use Rattle.session.specs.Session.{is_open}
use Rattle.held.specs.Held.{size, most, count_in, behind_for, size_for, front_of, behind_of, bytes_of, fields_at, front_at, behind_at, count_at, record_at}
use Rattle.laws.specs.HeldDamage.{DamageSeen}
use Rattle.held.proofs.Sizes.{no_buffer, in_buffer, same_front}
use Rattle.held.proofs.Answers.{IsRecord, held_open, length-sealed, front_size, behind_size, few}
use Rattle.laws.proofs.HeldTrip.{blocks_bytes, front_bytes, front_seal, front_count}

-- ---- of two lists, the first of them sealed

unsealed : (s t : List ℕ) → Bytes s → Bytes t → length s ≡ length t → length s ≤ 260 → is_sealed s ≡ true → 1 ≤ apart s t → apart s t ≤ 2 → is_sealed t ≡ false
unfolding OneSeen TwoSeen
unsealed s t bs bt l m w p q = by (apart s t) refl
  where
    by : (n : ℕ) → apart s t ≡ n → is_sealed t ≡ false
    by zero e = absurd (omega arith)
    by (suc zero) e = one_seen s t bs bt l w e
    by (suc (suc zero)) e = two_seen s t bs bt l m w e
    by (suc (suc (suc n))) e = absurd (omega arith)

-- places past the end of the first do not count
apart-take : (s t : List ℕ) → apart s (take (length s) t) ≡ apart s t
apart-take [] t = refl
apart-take (x ∷ s) [] = refl
apart-take (x ∷ s) (y ∷ t) = omega (arith, apart-take s t)

-- so many blocks, whose bytes these are, and what stands in their place
behind_seen : (n : ℕ) (s t : List ℕ) → n ≤ 64 → length s ≡ 4 * n → Bytes s → Bytes t → length t ≡ behind_for n → (0 < n → is_sealed t ≡ true)
    → 1 ≤ apart (behind_of n s) t → apart (behind_of n s) t ≤ 2 → ⊥
unfolding SealedFound
behind_seen zero s t m l bs bt k w p q = omega arith
behind_seen (suc n) s t m l bs bt k w p q =
    let e : length (sealed s) ≡ 4 * suc n + 4 = length-sealed s ∙ ap (λ (i : ℕ). i + 4) l in
    true≢false (sym (w (omega arith)) ∙ unsealed (sealed s) t (sealed_bytes s bs) bt (e ∙ sym k) (omega arith) (sealed_found s) p q)

-- ---- of a record

module _ (x : Session) (o : is_open x ≡ true) where
  abbrev b : Blocks
  b = x.consist.blocks

  abbrev behind : List ℕ
  behind = behind_of b.count (blocks.bytes_of b)

  -- a front that differs in no place tells of as many blocks
  same_count : (t : List ℕ) → front_of x ≡ front_at t → count_at t ≡ b.count
  same_count t e = ap (λ (f : List ℕ). count_in (get_or (fields_at f) 0 0)) (sym e) ∙ front_count x o

  same : (t : List ℕ) → size ≤ length t → apart (front_of x) (front_at t) ≡ 0 → front_of x ≡ front_at t
  same t m e = none_apart (front_of x) (front_at t) (front_size x ∙ sym (length-take-le size t m)) e

  -- a record that differs in so many places of the front, and, where these are none, in so many behind it
  never : (t : List ℕ) (i j : ℕ) → Bytes t → IsRecord t → apart (front_of x) (front_at t) ≡ i → (i ≡ 0 → apart behind (behind_at t) ≡ j) → 1 ≤ i + j → i + j ≤ 2 → ⊥
  unfolding blocks.bytes_of
  never t zero j bt r e f p q =
      let n = same_count t (same t (omega (arith, r.long)) e) in
      let k : length (behind_at t) ≡ behind_for (count_at t) = simp length-drop (omega (arith, r.long)) in
      let g = f refl in
      behind_seen b.count (blocks.bytes_of b) (behind_at t) (few x o) (length_bytes b) (blocks_bytes b b.count) (bytes_drop size t bt) (k ∙ ap behind_for n)
      (λ some. r.behind (subst (λ (m : ℕ). 0 < m) (sym n) some)) (omega arith) (omega arith)
  never t (suc i) j bt r e f p q =
      true≢false
      (sym r.front.seal
      ∙ unsealed (front_of x) (front_at t) (front_bytes x) (bytes_take size t bt) (front_size x ∙ sym (length-take-le size t (omega (arith, r.long)))) (omega (arith, front_size x)) (front_seal x) (omega arith) (omega arith))

  -- ---- and of a session buffer

  module _ (s : List ℕ) (bs : Bytes s) (p : 1 ≤ apart (bytes_of x) s) (q : apart (bytes_of x) s ≤ 2) where
    abbrev i : ℕ
    i = apart (front_of x) (front_at s)

    abbrev j : ℕ
    j = apart behind (behind_at s)

    parts : size ≤ length s → apart (bytes_of x) s ≡ i + j
    unfolding bytes_of
    parts m =
        ap (λ (t : List ℕ). apart (bytes_of x) t) (sym (take-append-drop size s))
        ∙ apart-append (front_of x) (front_at s) behind (behind_at s) (front_size x ∙ sym (length-take-le size s m))

    no_record : IsRecord s → ⊥
    no_record r =
        let m : size ≤ length s = omega (arith, r.long) in
        never s i j bs r refl (λ e. refl) (omega (arith, parts m)) (omega (arith, parts m))

    no_start : IsRecord (record_at s) → ⊥
    no_start r = by (dec_lt (length s) most)
      where
        by : Dec (length s < most) → ⊥
        by (yes l) = omega (arith, r.long, ap length (no_buffer s l))
        by (no l) =
            let m : most ≤ length s = omega arith in
            let z : size ≤ length s = omega arith in
            let bt : Bytes (record_at s) = subst Bytes (sym (in_buffer s m)) (bytes_take (size_for (count_at s)) s bs) in
            never (record_at s) i j bt r (ap (apart (front_of x)) (same_front s m)) (λ e.
            let n = same_count s (same s z e) in
            let cut : behind_at (record_at s) ≡ take (behind_for b.count) (behind_at s) =
            ap behind_at (in_buffer s m ∙ take-add size (behind_for (count_at s)) s)
            ∙ drop_at (front_at s) _ size (length-take-le size s z)
            ∙ ap (λ (k : ℕ). take (behind_for k) (behind_at s)) n in
            ap (apart behind) (cut ∙ ap (λ (k : ℕ). take k (behind_at s)) (sym (behind_size x))) ∙ apart-take behind (behind_at s))
            (omega (arith, parts z)) (omega (arith, parts z))

pub damage_seen : DamageSeen
unfolding DamageSeen
damage_seen x s o b p q =
    (not-eq-not.0 (λ e. no_record x o s b p q (held_open s e).0), not-eq-not.0 (λ e. no_start x o s b p q (held_open (record_at s) e).0))
