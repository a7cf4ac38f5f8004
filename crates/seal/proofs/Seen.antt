-- One changed byte is seen, and two in up to 260 bytes. Assumes nothing.
use mathlib.Core.Path.{◌≡◌, refl, sym, ap, ap₂, ◌∙◌}
use Prim.Native.Nat.{ℕ, zero, suc, ◌+◌, ◌-◌, ◌*◌, ◌/◌, ◌%◌, ◌≤◌, ◌<◌}
use native.Mathlib.Nat.{mod-eq_of_lt, mul-le-mul, mul-div_cancel_left}
use native.Mathlib.Omega.{arith}
use native.Mathlib.Decide.{dec_lt}
use mathlib.Core.Bool.{Bool, true, false}
use mathlib.Core.List.{List, [], ◌∷◌, ◌++◌}
use lib.ListN.{length, take}
use lib.Seq.{length-take-le}
use Rattle.bits.specs.Fields.{split, join}
use Rattle.bits.specs.Bytes.{Bytes, eights}
use Rattle.bits.proofs.Fields.{join-split, split-append}
use Rattle.bits.proofs.Bytes.{bytes_take}
use Rattle.seal.specs.Seal.{sum, running, check_word, sealed, is_sealed}
use Rattle.seal.specs.Apart.{apart}
use Rattle.seal.specs.Seen.{FoundSealed, OneSeen, TwoSeen}
use Rattle.seal.proofs.Modulo.{same_less, same_behind}
use Rattle.seal.proofs.Apart.{front, none_apart, apart_self, apart-append}
use Rattle.seal.proofs.Sums.{weighed, second_sum}
use Rattle.seal.proofs.Gap.{Gap, gap}
use Rattle.seal.proofs.Seals.{is_sealed_lem, found_sealed}

-- ---- numbers

-- one byte that counts w times, 256 at most
below : (w d : ℕ) → w ≤ 256 → d < 256 → w * d < 65536
below w d lw ld = let h : w * d ≤ 256 * 255 = mul-le-mul {n₁ = w} {m₁ = d} {n₂ = 256} {m₂ = 255} lw (omega arith) in omega arith

-- a byte that is d more and counts v times, and one that is d less and counts w times
not_even : (v w d : ℕ) → w < v → v ≤ 256 → d < 255 → (v * suc d) % 65536 ≡ (w * suc d) % 65536 → ⊥
not_even v w d l m ld h =
    let e = sym (mod-eq_of_lt (below v (suc d) m (omega arith))) ∙ h ∙ mod-eq_of_lt (below w (suc d) (omega arith) (omega arith)) in
    let k : suc w * suc d ≤ v * suc d = mul-le-mul {n₁ = suc w} {m₁ = suc d} {n₂ = v} {m₂ = suc d} l (omega arith) in
    omega arith

-- x and y count v times, a and b w times
two_up : (y d b v w r : ℕ) → w < v → v ≤ 256 → d < 255 → (v * (y + suc d) + (r + w * b)) % 65536 ≡ (v * y + (r + w * (b + suc d))) % 65536 → ⊥
two_up y d b v w r l m ld h =
    let e : v * (y + suc d) + (r + w * b) ≡ v * suc d + (v * y + r + w * b) = omega arith in
    let f : v * y + (r + w * (b + suc d)) ≡ w * suc d + (v * y + r + w * b) = omega arith in
    not_even v w d l m ld
    (same_less 65535 (v * suc d) (w * suc d) (v * y + r + w * b) (sym (ap (λ (n : ℕ). n % 65536) e) ∙ h ∙ ap (λ (n : ℕ). n % 65536) f))

two_bytes : (x y a b v w q r : ℕ) → x < 256 → y < 256 → a < 256 → b < 256 → w < v → v ≤ 256 → (x ≡ y → ⊥)
    → (x + (q + a)) % 65536 ≡ (y + (q + b)) % 65536 → (v * x + (r + w * a)) % 65536 ≡ (v * y + (r + w * b)) % 65536 → ⊥
two_bytes x y a b v w q r lx ly la lb l m ne h k = by (dec_lt y x)
  where
    even : x + a ≡ y + b
    even =
        let e : x + (q + a) ≡ q + (x + a) = omega arith in
        let f : y + (q + b) ≡ q + (y + b) = omega arith in
        let z = same_behind 65535 (x + a) (y + b) q (sym (ap (λ (n : ℕ). n % 65536) e) ∙ h ∙ ap (λ (n : ℕ). n % 65536) f) in
        omega arith

    by : Dec (y < x) → ⊥
    by (yes o) =
        let d = x - suc y in
        let ex : x ≡ y + suc d = omega arith in
        let eb : b ≡ a + suc d = omega (arith, even) in
        two_up y d a v w r l m (omega arith)
        (ap (λ (n : ℕ). (v * n + (r + w * a)) % 65536) (sym ex) ∙ k ∙ ap (λ (n : ℕ). (v * y + (r + w * n)) % 65536) eb)
    by (no o) =
        let d = y - suc x in
        let ey : y ≡ x + suc d = omega arith in
        let ea : a ≡ b + suc d = omega (arith, even) in
        two_up x d b v w r l m (omega arith)
        (ap (λ (n : ℕ). (v * n + (r + w * b)) % 65536) (sym ey) ∙ sym k ∙ ap (λ (n : ℕ). (v * x + (r + w * n)) % 65536) ea)

-- ---- lists of bytes

-- one place, in the first sum and in the second
one_sum : (s t : List ℕ) → Gap s t → sum s % 65536 ≡ sum t % 65536 → ⊥
one_sum s t g e =
    let z = same_behind 65535 g.a g.b g.others (sym (ap (λ (n : ℕ). n % 65536) g.first) ∙ e ∙ ap (λ (n : ℕ). n % 65536) g.second) in
    g.differ (omega (arith, z, g.a_byte, g.b_byte))

one_weighed : (s t : List ℕ) → Gap s t → length s ≤ 256 → weighed s % 65536 ≡ weighed t % 65536 → ⊥
one_weighed s t g m e =
    let w : g.w ≤ 256 = omega (arith, g.inside) in
    let z =
    same_behind 65535 (g.w * g.a) (g.w * g.b) g.weights
    (sym (ap (λ (n : ℕ). n % 65536) g.first_weighed) ∙ e ∙ ap (λ (n : ℕ). n % 65536) g.second_weighed) in
    let y : g.w * g.a ≡ g.w * g.b = sym (mod-eq_of_lt (below g.w g.a w g.a_byte)) ∙ z ∙ mod-eq_of_lt (below g.w g.b w g.b_byte) in
    g.differ (sym (mul-div_cancel_left g.a {n = g.w} g.counts) ∙ ap (λ (n : ℕ). n / g.w) y ∙ mul-div_cancel_left g.b {n = g.w} g.counts)

two_sums : (s t : List ℕ) → Bytes s → Bytes t → length s ≡ length t → length s ≤ 256 → apart s t ≡ 2
    → sum s % 65536 ≡ sum t % 65536 → weighed s % 65536 ≡ weighed t % 65536 → ⊥
two_sums [] t bs bt l m h e f = absurd (omega arith)
two_sums (x ∷ s) [] bs bt l m h e f = absurd (omega arith)
two_sums (x ∷ s) (y ∷ t) bs bt l m h e f =
    let n : length s ≡ length t = omega arith in
    let even = f ∙ ap (λ (k : ℕ). (suc k * y + weighed t) % 65536) (sym n) in
    front x y (apart s t) 2 h
    (λ q k. two_sums s t (λ i. bs (suc i)) (λ i. bt (suc i)) n (omega arith) k
    (same_behind 65535 (sum s) (sum t) x (e ∙ ap (λ (z : ℕ). (z + sum t) % 65536) (sym q)))
    (same_behind 65535 (weighed s) (weighed t) (suc (length s) * x) (even ∙ ap (λ (z : ℕ). (suc (length s) * z + weighed t) % 65536) (sym q))))
    (λ q k. other x y s t (bs 0) (bt 0) (omega arith) q (gap s t (λ i. bs (suc i)) (λ i. bt (suc i)) n (omega arith)) e even)
  where
    other : (x y : ℕ) (s t : List ℕ) → x < 256 → y < 256 → suc (length s) ≤ 256 → (x ≡ y → ⊥) → Gap s t
        → (x + sum s) % 65536 ≡ (y + sum t) % 65536
        → (suc (length s) * x + weighed s) % 65536 ≡ (suc (length s) * y + weighed t) % 65536 → ⊥
    other x y s t bx by m ne g p q =
        two_bytes x y g.a g.b (suc (length s)) g.w g.others g.weights bx by g.a_byte g.b_byte (omega (arith, g.inside)) m ne
        (sym (ap (λ (n : ℕ). (x + n) % 65536) g.first) ∙ p ∙ ap (λ (n : ℕ). (y + n) % 65536) g.second)
        (sym (ap (λ (n : ℕ). (suc (length s) * x + n) % 65536) g.first_weighed) ∙ q ∙ ap (λ (n : ℕ). (suc (length s) * y + n) % 65536) g.second_weighed)

-- ---- with their check words

-- the two bytes of a sum
half : ℕ → List ℕ
half n = split (eights 2) (n % 65536)

-- halves that differ in no place are of one number
half_one : (m n : ℕ) → apart (half m) (half n) ≡ 0 → m % 65536 ≡ n % 65536
unfolding half
half_one m n h =
    let back : (k : ℕ) → join (eights 2) (half k) ≡ k % 65536 = λ k. join-split (eights 2) (k % 65536) ∙ omega arith in
    sym (back m) ∙ ap (join (eights 2)) (none_apart (half m) (half n) refl h) ∙ back n

word_is : (s : List ℕ) → split (eights 4) (check_word s) ≡ half (sum s) ++ half (weighed s)
unfolding check_word half
word_is s =
    split-append (eights 2) (eights 2) (sum s % 65536) (sum (running 0 s) % 65536) (omega arith)
    ∙ ap (λ (n : ℕ). half (sum s) ++ half n) (second_sum s)

module _ (s t : List ℕ) (l : length s ≡ length t) where
  -- in the bytes, in the first sum and in the second
  parts : apart (sealed s) (sealed t) ≡ apart s t + (apart (half (sum s)) (half (sum t)) + apart (half (weighed s)) (half (weighed t)))
  unfolding sealed half
  parts =
      ap₂ (λ (u v : List ℕ). apart (s ++ u) (t ++ v)) (word_is s) (word_is t)
      ∙ apart-append s t (half (sum s) ++ half (weighed s)) (half (sum t) ++ half (weighed t)) l
      ∙ ap (λ (n : ℕ). apart s t + n) (apart-append (half (sum s)) (half (sum t)) (half (weighed s)) (half (weighed t)) refl)

  none_seen : apart s t ≡ 0 → apart (sealed s) (sealed t) ≡ 0
  none_seen h = ap (λ (u : List ℕ). apart (sealed s) (sealed u)) (sym (none_apart s t l h)) ∙ apart_self (sealed s)

  module _ (bs : Bytes s) (bt : Bytes t) where
    -- one byte changes the first sum
    first_changed : apart s t ≡ 1 → apart (half (sum s)) (half (sum t)) ≡ 0 → ⊥
    first_changed z o = one_sum s t (gap s t bs bt l z) (half_one (sum s) (sum t) o)

    one_apart : apart (sealed s) (sealed t) ≡ 1 → ⊥
    one_apart h = by (apart s t) refl
      where
        by : (n : ℕ) → apart s t ≡ n → ⊥
        by zero z = omega (arith, h, none_seen z)
        by (suc zero) z = first_changed z (omega (arith, h, parts))
        by (suc (suc n)) z = omega (arith, h, parts)

    two_apart : length s ≤ 256 → apart (sealed s) (sealed t) ≡ 2 → ⊥
    two_apart m h = by (apart s t) refl
      where
        by : (n : ℕ) → apart s t ≡ n → ⊥
        by zero z = omega (arith, h, none_seen z)
        by (suc zero) z =
            let q : apart (half (weighed s)) (half (weighed t)) ≡ 0 → ⊥ = λ o. one_weighed s t (gap s t bs bt l z) m (half_one (weighed s) (weighed t) o) in
            omega (arith, h, parts, first_changed z, q)
        by (suc (suc zero)) z =
            two_sums s t bs bt l m z (half_one (sum s) (sum t) (omega (arith, h, parts))) (half_one (weighed s) (weighed t) (omega (arith, h, parts)))
        by (suc (suc (suc n))) z = omega (arith, h, parts)

-- what holds of no two bodies with their check words holds of no two lists that are sealed
found : (n : ℕ) (s t : List ℕ) → Bytes s → Bytes t → length s ≡ length t → is_sealed s ≡ true → apart s t ≡ n
    → ((a b : List ℕ) → Bytes a → Bytes b → length a ≡ length b → length a + 4 ≡ length s → apart (sealed a) (sealed b) ≡ n → ⊥) → is_sealed t ≡ false
unfolding FoundSealed
found n s t bs bt l w h never = unless (is_sealed t) (λ v.
    let k = length s - 4 in
    let long = (is_sealed_lem s w).long in
    let a : length (take k s) ≡ k = length-take-le k s (omega arith) in
    let b : length (take k t) ≡ k = length-take-le k t (omega arith) in
    never (take k s) (take k t) (bytes_take k s bs) (bytes_take k t bt) (a ∙ sym b) (omega arith)
    (sym (ap₂ apart (found_sealed s bs w) (found_sealed t bt v ∙ ap (λ (i : ℕ). sealed (take (i - 4) t)) (sym l))) ∙ h))
  where
    unless : (c : Bool) → (c ≡ true → ⊥) → c ≡ false
    unless true never = absurd (never refl)
    unless false never = refl

pub one_seen : OneSeen
unfolding OneSeen
one_seen s t bs bt l w h = found 1 s t bs bt l w h (λ a b p q k m. one_apart a b k p q)

pub two_seen : TwoSeen
unfolding TwoSeen
two_seen s t bs bt l z w h = found 2 s t bs bt l w h (λ a b p q k m. two_apart a b k p q (omega arith))
