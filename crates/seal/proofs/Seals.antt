-- What `is_sealed` reads and `put_check_word` writes; what is sealed is found sealed, and nothing else. Assumes nothing.
use mathlib.Core.Path.{◌≡◌, refl, sym, ap, ap₂, ◌∙◌}
use Prim.Native.Nat.{ℕ, zero, suc, ◌+◌, ◌-◌, ◌%◌, ◌^◌, ◌≤◌, ◌<◌}
use native.Mathlib.Nat.{mod-eq_of_lt}
use native.Mathlib.Omega.{arith}
use mathlib.Core.Bool.{true}
use mathlib.Core.List.{List, [], ◌∷◌, ◌++◌, append-nil}
use lib.Dec.{eqb, leb}
use lib.ListN.{length, take, drop, drop_of_length-le, length-append, length-drop, take-append-drop}
use lib.Seq.{take_all, take_at, drop_at}
use borrow.Author.Tests.{le-leb, lt-leb, eq-eqb, leb-true, eqb-true}
use Rattle.bits.specs.Fields.{split, Fit}
use Rattle.bits.specs.Bytes.{Bytes, eights, num}
use Rattle.bits.proofs.Fields.{join-split, split-join, split_fit}
use Rattle.bits.proofs.Bytes.{bytes_fit, bytes_drop}
use Rattle.bits.proofs.Words.{part_word}
use Rattle.bits.proofs.Ranges.{and-true_left, and-true_right}
use Rattle.seal.specs.Seal.{check_word, body, tail, sealed, is_sealed, resealed}
use Rattle.seal.specs.Seen.{SealedFound, FoundSealed}

-- what sealed bytes are
pub record Sealed (s : List ℕ) : Type 0 where
  pub long : 4 ≤ length s
  pub check_is : num (tail s) ≡ check_word (body s)

pub is_sealed_lem : (s : List ℕ) → is_sealed s ≡ true → Sealed s
unfolding is_sealed
is_sealed_lem s h =
    let p = leb 4 (length s) in
    let q = eqb (num (tail s)) (check_word (body s)) in
    record {
      long = leb-true 4 (length s) (and-true_left p q h);
      check_is = eqb-true (num (tail s)) (check_word (body s)) (and-true_right p q h);
    }

-- ---- as the code finds it

module _ (s : List ℕ) (long : 4 ≤ length s) where
  four : length s - (length s - 4) ≡ 4
  four = omega arith

  tail_size : length (tail s) ≡ 4
  tail_size = simp length-drop (omega arith)

  pub read : (w c : ℕ) → Bytes s → w ≡ num (take (length s - (length s - 4)) (tail s)) % 2 ^ 64 → c ≡ check_word (body s) → eqb w c ≡ is_sealed s
  unfolding is_sealed
  read w c b p q =
      let e =
      p ∙ ap (λ (n : ℕ). num (take n (tail s)) % 2 ^ 64) four ∙ part_word s (length s - 4) 4 b (omega arith) (omega arith) ∙ ap num (take_all 4 (tail s) (omega (arith, tail_size))) in
      rw (le-leb 4 (length s) long) (ap₂ eqb e q)

  pub put : (z : List ℕ) (x : ℕ) → z ≡ split (eights (length (take (length s - (length s - 4)) (tail s)))) x → x ≡ check_word (body s)
      → body s ++ (z ++ drop (length s - (length s - 4)) (tail s)) ≡ resealed s
  unfolding sealed resealed
  put z x p q =
      let k : length (take 4 (tail s)) ≡ 4 = ap length (take_all 4 (tail s) (omega (arith, tail_size))) ∙ tail_size in
      let e : z ≡ split (eights 4) (check_word (body s)) =
      p ∙ ap (λ (n : ℕ). split (eights (length (take n (tail s)))) x) four ∙ ap₂ (λ (n y : ℕ). split (eights n) y) k q in
      let d : drop 4 (tail s) ≡ [] = drop_of_length-le (tail s) {i = 4} (omega (arith, tail_size)) in
      rw (le-leb 4 (length s) long)
      (ap₂ (λ (y r : List ℕ). body s ++ (y ++ r)) e (ap (λ (n : ℕ). drop n (tail s)) four ∙ d)
      ∙ ap (λ (r : List ℕ). body s ++ r) (append-nil _))

-- fewer bytes than a check word has stay as they are
pub too_few : (s : List ℕ) → length s < 4 → resealed s ≡ s
unfolding resealed
too_few s h = rw (lt-leb 4 (length s) h)

-- ---- found

check_lt : (s : List ℕ) → check_word s < 2 ^ 32
unfolding check_word
check_lt s = omega arith

pub sealed_found : SealedFound
unfolding SealedFound is_sealed sealed
sealed_found s =
    let z = split (eights 4) (check_word s) in
    let n : length (s ++ z) ≡ length s + 4 = length-append s z in
    let k : length s + 4 - 4 ≡ length s = omega arith in
    rw (n, k, le-leb 4 (length s + 4) (omega arith), drop_at s z (length s) refl, take_at s z (length s) refl) (
    eq-eqb (num z) (check_word s) (join-split (eights 4) (check_word s) ∙ mod-eq_of_lt (check_lt s))
    )

pub found_sealed : FoundSealed
unfolding FoundSealed sealed
found_sealed s b h =
    let w = is_sealed_lem s h in
    let t = tail s in
    let n = tail_size s w.long in
    sym (take-append-drop (length s - 4) s)
    ∙ ap (λ (r : List ℕ). body s ++ r)
    (sym (split-join (eights (length t)) t (bytes_fit t (bytes_drop (length s - 4) s b)))
    ∙ ap₂ (λ (i x : ℕ). split (eights i) x) n w.check_is)

-- a check word put over what stands in its place
pub resealed_over : (s r : List ℕ) → length r ≡ 4 → resealed (s ++ r) ≡ sealed s
unfolding resealed
resealed_over s r e =
    let n : length (s ++ r) ≡ length s + 4 = length-append s r ∙ omega arith in
    let k : length s + 4 - 4 ≡ length s = omega arith in
    rw (n, k, le-leb 4 (length s + 4) (omega arith), take_at s r (length s) refl)

-- ---- bytes

fit_bytes : (n : ℕ) (s : List ℕ) → Fit (eights n) s → Bytes s
fit_bytes zero [] f i = omega arith
fit_bytes zero (x ∷ s) f i = absurd f
fit_bytes (suc n) [] f i = absurd f
fit_bytes (suc n) (x ∷ s) f zero = f.0
fit_bytes (suc n) (x ∷ s) f (suc i) = fit_bytes n s f.1 i

pub split_bytes : (n x : ℕ) → Bytes (split (eights n) x)
split_bytes n x = fit_bytes n (split (eights n) x) (split_fit (eights n) x)

pub append_bytes : (s t : List ℕ) → Bytes s → Bytes t → Bytes (s ++ t)
append_bytes [] t bs bt i = bt i
append_bytes (x ∷ s) t bs bt zero = bs 0
append_bytes (x ∷ s) t bs bt (suc i) = append_bytes s t (λ j. bs (suc j)) bt i

pub sealed_bytes : (s : List ℕ) → Bytes s → Bytes (sealed s)
unfolding sealed
sealed_bytes s b = append_bytes s (split (eights 4) (check_word s)) b (split_bytes 4 (check_word s))
