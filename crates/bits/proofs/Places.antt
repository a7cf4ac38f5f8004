-- Laws of fields by their places: they are what `split` has there, and put one after the other they are the bytes of `join`. Assumes nothing.
use mathlib.Core.Path.{◌≡◌, refl, sym, ap, ap₂, subst, ◌∙◌}
use Prim.Native.Nat.{ℕ, zero, suc, ◌+◌, ◌-◌, ◌*◌, ◌/◌, ◌%◌, ◌^◌, ◌≤◌, ◌<◌}
use native.Mathlib.Nat.{add_assoc, zero-add, mod-lt, mod-eq_of_lt, mod-one, add-zero, div-add-mod', div-eq_of_lt}
use native.Mathlib.Numerals.{add-one}
use native.Mathlib.Omega.{arith}
use mathlib.Core.Bool.{Bool, true, ◌&&◌}
use mathlib.Core.List.{List, [], ◌∷◌, ◌++◌}
use lib.ListN.{length, take, drop, get_or, drop_of_length-le}
use lib.Seq.{length-take-le, drop-cons}
use lib.Dec.{T, leb, leb→le}
use lib.Arith.{digits_lt, digits_div, digits_mod}
use lib.Pow.{pow-add, pow_pos, mod-mod-pow}
use Rattle.bits.specs.Fields.{total, split, join, Fit}
use Rattle.bits.specs.Bytes.{eights, num, Bytes, bytes_from}
use Rattle.bits.specs.Places.{behind, field_at, replaced, put_at, fields_from, put_from}
use Rattle.bits.proofs.Ranges.{T-left, T-right}
use Rattle.bits.proofs.Fields.{join-lt, join-split, length-split}
use Rattle.bits.proofs.Bytes.{total-eights, length-eights, num-lt, bytes_take}
use Rattle.bits.proofs.OneField.{replaced-lt, own, put_middle, inside}

-- ---- fields of widths, one after the other

-- no field is wider than a place takes: computed, so `tt` shows it of widths that are written out
abbrev pub narrow : List ℕ → Bool
narrow [] = true
narrow (w ∷ ws) = leb w 56 && narrow ws

pub fields_from_lem : (first : ℕ) (ws s : List ℕ) → T (narrow ws) → first + total ws ≡ 8 * length s → fields_from first ws s ≡ split ws (num s)
unfolding field_at
fields_from_lem first [] s t h = refl
fields_from_lem first (w ∷ ws) s t h =
    let n : w ≤ 56 = leb→le w 56 (T-left (leb w 56) _ t) in
    let k : behind s first w ≡ total ws = omega arith in
    ap₂ (λ (x : ℕ) (l : List ℕ). x ∷ l)
    (rw (inside s first w n (omega arith)) (ap (λ (x : ℕ). num s / 2 ^ x % 2 ^ w) k))
    (fields_from_lem (first + w) ws s (T-right (leb w 56) _ t) (omega arith))

-- ---- fields put one after the other

-- two fields side by side are one
replaced_twice : (n k t w f g : ℕ) → f < 2 ^ w → g < 2 ^ t → replaced (replaced n (t + k) w f) k t g ≡ replaced n k (w + t) (f * 2 ^ t + g)
replaced_twice n k t w f g hf hg =
    let h = n / 2 ^ (w + (t + k)) in
    let x = replaced n (t + k) w f in
    let both : f * 2 ^ t + g < 2 ^ (w + t) = subst (λ (y : ℕ). f * 2 ^ t + g < y) (sym (pow-add 2 w t)) (digits_lt hf hg) in
    let is : x ≡ (h * 2 ^ w + f) * 2 ^ (t + k) + n % 2 ^ (t + k) = rw (pow-add 2 w (t + k), mod-eq_of_lt hf) (omega arith) in
    let high : x / 2 ^ (t + k) ≡ h * 2 ^ w + f = ap (λ (y : ℕ). y / 2 ^ (t + k)) is ∙ digits_div (h * 2 ^ w + f) (mod-lt n (pow_pos (t + k))) in
    let low : x % 2 ^ k ≡ n % 2 ^ k =
    sym (mod-mod-pow x t k)
    ∙ ap (λ (y : ℕ). y % 2 ^ k) (ap (λ (y : ℕ). y % 2 ^ (t + k)) is ∙ digits_mod (h * 2 ^ w + f) (mod-lt n (pow_pos (t + k))))
    ∙ mod-mod-pow n t k in
    rw (high, low, mod-eq_of_lt hg, mod-eq_of_lt both, add_assoc w t k) (rw (pow-add 2 w (t + k), pow-add 2 t k) (omega arith))

replaced_none : (n k v : ℕ) → replaced n k 0 v ≡ n
replaced_none n k v = rw (zero-add k, mod-one v) (omega (arith, div-add-mod' n (2 ^ k)))

replaced_all : (n w v : ℕ) → n < 2 ^ w → v < 2 ^ w → replaced n 0 w v ≡ v
replaced_all n w v hn hv = rw (add-zero w, div-eq_of_lt hn, mod-eq_of_lt hv, mod-one n) (omega arith)

-- ---- the bytes of a number

length_bytes : (n x : ℕ) → length (split (eights n) x) ≡ n
length_bytes n x = length-split (eights n) x ∙ length-eights n

bytes_split : (n x : ℕ) → Bytes (split (eights n) x)
bytes_split zero x i = omega arith
bytes_split (suc n) x zero = mod-lt (x / 2 ^ total (eights n)) (pow_pos 8)
bytes_split (suc n) x (suc i) = bytes_split n x i

num-split : (n x : ℕ) → x < 2 ^ (8 * n) → num (split (eights n) x) ≡ x
num-split n x h =
    ap (λ (k : ℕ). join (eights k) (split (eights n) x)) (length_bytes n x)
    ∙ join-split (eights n) x
    ∙ mod-eq_of_lt (subst (λ (t : ℕ). x < 2 ^ t) (sym (total-eights n)) h)

pub put_from_lem : (first : ℕ) (ws fs s : List ℕ) → Bytes s → T (narrow ws) → Fit ws fs → first + total ws ≤ 8 * length s
    → put_from first ws fs s ≡ split (eights (length s)) (replaced (num s) (8 * length s - (first + total ws)) (total ws) (join ws fs))
unfolding put_at
put_from_lem first [] [] s b t f h = sym (ap (split (eights (length s))) (replaced_none (num s) _ 0) ∙ own s b (length s) refl)
put_from_lem first [] (f ∷ fs) s b t h l = absurd h
put_from_lem first (w ∷ ws) [] s b t h l = absurd h
put_from_lem first (w ∷ ws) (f ∷ fs) s b t h l =
    let n = length s in
    let k = 8 * n - (first + (w + total ws)) in
    let narrow_one : w ≤ 56 = leb→le w 56 (T-left (leb w 56) _ t) in
    let x = replaced (num s) (behind s first w) w f in
    let o = split (eights n) x in
    let put : put_at s first w f ≡ o = rw (inside s first w narrow_one (omega arith)) in
    let bits : first + (w + behind s first w) ≡ 8 * n = omega arith in
    let all : num s < 2 ^ (8 * n) = subst (λ (i : ℕ). num s < 2 ^ i) (total-eights n) (num-lt n s b refl) in
    let small = replaced-lt (num s) (behind s first w) w f first (subst (λ (i : ℕ). num s < 2 ^ i) (sym bits) all) in
    let u : behind s first w ≡ total ws + k = omega arith in
    let v : 8 * n - (first + w + total ws) ≡ k = omega arith in
    ap (put_from (first + w) ws fs) put
    ∙ put_from_lem (first + w) ws fs o (bytes_split n x) (T-right (leb w 56) _ t) h.1
    (subst (λ (i : ℕ). first + w + total ws ≤ 8 * i) (sym (length_bytes n x)) (omega arith))
    ∙ ap₂ (λ (i y : ℕ). split (eights i) (replaced y (8 * i - (first + w + total ws)) (total ws) (join ws fs))) (length_bytes n x)
    (num-split n x (subst (λ (i : ℕ). x < 2 ^ i) bits small))
    ∙ ap (split (eights n))
    (ap₂ (λ (i j : ℕ). replaced (replaced (num s) i w f) j (total ws) (join ws fs)) u v
    ∙ replaced_twice (num s) k (total ws) w f (join ws fs) h.0 (join-lt ws fs h.1))

-- fields whose widths take m bytes, put over the first m of s: the bytes that they are, and s behind them as it was
pub put_all : (m : ℕ) (ws fs s : List ℕ) → T (narrow ws) → total ws ≡ 8 * m → Fit ws fs → Bytes s → m ≤ length s → put_from 0 ws fs s ≡ bytes_from m ws fs ++ drop m s
put_all m ws fs s t e h b l =
    let j = join ws fs in
    let x = num (take m s) in
    let w = total ws in
    let small : x < 2 ^ w = subst (λ (i : ℕ). x < 2 ^ i) (total-eights m ∙ sym e) (num-lt m (take m s) (bytes_take m s b) (length-take-le m s l)) in
    let q : 8 * length s - (0 + w) ≡ 8 * (length s - (0 + m)) + 0 = omega arith in
    put_from_lem 0 ws fs s b t h (omega arith)
    ∙ ap (λ (i : ℕ). split (eights (length s)) (replaced (num s) i w j)) q
    ∙ sym (put_middle s 0 m b (omega arith) 0 w 0 (omega arith) j)
    ∙ ap (λ (i : ℕ). split (eights m) i ++ drop m s) (replaced_all x w j small (join-lt ws fs h))

-- ---- field i, as a loop over widths and values puts it

pub total_next : (ws : List ℕ) (i : ℕ) → i < length ws → total (drop i ws) ≡ get_or ws i 0 + total (drop (i + 1) ws)
total_next ws i h = rw (add-one i) (ap total (drop-cons ws i 0 h))

pub put_next_field : (ws fs s r : List ℕ) (first i : ℕ) → i < length ws → length fs ≡ length ws → r ≡ put_at s first (get_or ws i 0) (get_or fs i 0)
    → put_from (first + get_or ws i 0) (drop (i + 1) ws) (drop (i + 1) fs) r ≡ put_from first (drop i ws) (drop i fs) s
put_next_field ws fs s r first i h l e =
    rw (e, add-one i) (sym (ap₂ (λ (u v : List ℕ). put_from first u v s) (drop-cons ws i 0 h) (drop-cons fs i 0 (omega arith))))

-- none is left
pub put_none_left : (ws fs s : List ℕ) (first i : ℕ) → length ws ≤ i → put_from first (drop i ws) fs s ≡ s
put_none_left ws fs s first i h = ap (λ (u : List ℕ). put_from first u fs s) (drop_of_length-le ws h)
