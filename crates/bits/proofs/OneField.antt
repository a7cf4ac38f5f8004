-- Laws of one field by its place: what reading and replacing its bits comes to, in bytes and as the code finds it. Assumes nothing.
use mathlib.Core.Path.{◌≡◌, sym, ap, ap₂, subst, ◌∙◌}
use Prim.Native.Nat.{ℕ, ◌+◌, ◌-◌, ◌*◌, ◌/◌, ◌%◌, ◌^◌, ◌≤◌, ◌<◌}
use native.Mathlib.Nat.{one-mul, mod-lt, mod-eq_of_lt, add-sub_cancel_left, div-add-mod', div-mul-le_self, lt_of_le_of_lt, lt_trans}
use native.Mathlib.Omega.{arith}
use mathlib.Core.Bool.{true, false}
use mathlib.Core.List.{List, ◌++◌, append_assoc}
use lib.ListN.{length, take, drop, length-take, length-drop}
use lib.Seq.{length-take-le}
use lib.Arith.{digits_lt}
use lib.Pow.{pow-add, pow_pos, pow-lt, shr_lt, mod-pow-add, shl_exact}
use borrow.Author.Tests.{le-leb, lt-leb}
use Rattle.bits.specs.Fields.{total, split}
use Rattle.bits.specs.Bytes.{eights, num, Bytes}
use Rattle.bits.specs.Places.{lies, behind, field_at, replaced, put_at}
use Rattle.bits.proofs.Words.{part_word}
use Rattle.bits.proofs.Fields.{split-join, split-append, in_high, in_low}
use Rattle.bits.proofs.Bytes.{total-eights, eights-append, num_cut, num-lt, bytes_fit, bytes_take, bytes_drop}

-- ---- a number with some of its bits replaced

-- what is taken out and what is put in
pub replaced_sum : (n k w v : ℕ) → replaced n k w v + n / 2 ^ k % 2 ^ w * 2 ^ k ≡ n + v % 2 ^ w * 2 ^ k
replaced_sum n k w v = omega (arith, div-add-mod' n (2 ^ (w + k)), mod-pow-add n w k)

-- the bits that are put in, with those behind them
inner_lt : (n k w v : ℕ) → v % 2 ^ w * 2 ^ k + n % 2 ^ k < 2 ^ (w + k)
inner_lt n k w v = subst (λ (x : ℕ). v % 2 ^ w * 2 ^ k + n % 2 ^ k < x) (sym (pow-add 2 w k)) (digits_lt (mod-lt v (pow_pos w)) (mod-lt n (pow_pos k)))

pub replaced-lt : (n k w v j : ℕ) → n < 2 ^ (j + (w + k)) → replaced n k w v < 2 ^ (j + (w + k))
replaced-lt n k w v j h =
    subst (λ (x : ℕ). replaced n k w v < x) (sym (pow-add 2 j (w + k))) (digits_lt (shr_lt j (w + k) h) (inner_lt n k w v))

-- a field of the middle W of three parts, behind B and before A, is a field of the whole N
in_parts : (R N O B W r A U K X : ℕ) → R + O * (U * K) ≡ N + X * (U * K) → N ≡ (B + W) * U + A → r + O * K ≡ W + X * K → R ≡ (B + r) * U + A
in_parts R N O B W r A U K X f g h = omega (arith, f, g, ap (λ (x : ℕ). x * U) h)

-- ---- bytes in three parts: m of them from a on, with k bits behind the field in these, which has w

pub own : (l : List ℕ) → Bytes l → (n : ℕ) → length l ≡ n → split (eights n) (num l) ≡ l
own l b n e = ap (λ (k : ℕ). split (eights k) (num l)) (sym e) ∙ split-join (eights (length l)) l (bytes_fit l b)

module _ (s : List ℕ) (a m : ℕ) (b : Bytes s) (l : a + m ≤ length s) where
  abbrev before : ℕ
  before = num (take a s)

  abbrev middle : ℕ
  middle = num (take m (drop a s))

  abbrev after : ℕ
  after = num (drop m (drop a s))

  -- the bits behind the middle
  abbrev rest : ℕ
  rest = 8 * (length s - (a + m))

  size : length (drop m (drop a s)) ≡ length s - (a + m)
  size = simp (length-drop) (omega arith)

  mid_size : length (take m (drop a s)) ≡ m
  mid_size = simp (length-take, length-drop) (omega arith)

  after-lt : after < 2 ^ rest
  after-lt =
      subst (λ (t : ℕ). after < 2 ^ t) (total-eights (length s - (a + m)))
      (num-lt (length s - (a + m)) (drop m (drop a s)) (bytes_drop m (drop a s) (bytes_drop a s b)) size)

  middle-lt : middle < 2 ^ (8 * m)
  middle-lt = subst (λ (t : ℕ). middle < 2 ^ t) (total-eights m) (num-lt m (take m (drop a s)) (bytes_take m (drop a s) (bytes_drop a s b)) mid_size)

  three : num s ≡ (before * 2 ^ (8 * m) + middle) * 2 ^ rest + after
  three =
      let e : length (drop a s) ≡ length s - a = length-drop a s in
      let t : total (eights (length (drop a s))) ≡ 8 * m + rest = omega (arith, total-eights (length (drop a s))) in
      let u : total (eights (length (drop m (drop a s)))) ≡ rest = omega (arith, size, total-eights (length (drop m (drop a s)))) in
      num_cut a s
      ∙ ap₂ (λ (x y : ℕ). before * 2 ^ x + y) t (num_cut m (drop a s) ∙ ap (λ (x : ℕ). middle * 2 ^ x + after) u)
      ∙ rw (pow-add 2 (8 * m) rest) (omega arith)

  module _ (j w k : ℕ) (e : 8 * m ≡ j + (w + k)) where
    pub field_middle : num s / 2 ^ (rest + k) % 2 ^ w ≡ middle / 2 ^ k % 2 ^ w
    field_middle =
        ap (λ (n : ℕ). n / 2 ^ (rest + k) % 2 ^ w) three
        ∙ in_high rest (before * 2 ^ (8 * m) + middle) after after-lt k w
        ∙ ap (λ (x : ℕ). (before * 2 ^ x + middle) / 2 ^ k % 2 ^ w) e
        ∙ in_low before middle j w k

    replaced-middle : (v : ℕ) → replaced (num s) (rest + k) w v ≡ (before * 2 ^ (8 * m) + replaced middle k w v) * 2 ^ rest + after
    replaced-middle v =
        let sum = replaced_sum (num s) (rest + k) w v in
        let o = middle / 2 ^ k % 2 ^ w in
        in_parts (replaced (num s) (rest + k) w v) (num s) o (before * 2 ^ (8 * m)) middle (replaced middle k w v) after (2 ^ rest) (2 ^ k) (v % 2 ^ w)
        (ap₂ (λ (x p : ℕ). replaced (num s) (rest + k) w v + x * p) (sym field_middle) (sym (pow-add 2 rest k))
        ∙ sum
        ∙ ap (λ (p : ℕ). num s + v % 2 ^ w * p) (pow-add 2 rest k))
        three
        (replaced_sum middle k w v)

    pub put_middle : (v : ℕ) → take a s ++ (split (eights m) (replaced middle k w v) ++ drop m (drop a s)) ≡ split (eights (length s)) (replaced (num s) (rest + k) w v)
    put_middle v =
        let q = length s - (a + m) in
        let n : length s ≡ a + m + q = omega arith in
        let r = replaced middle k w v in
        let small : r < 2 ^ (8 * m) = subst (λ (x : ℕ). r < 2 ^ x) (sym e) (replaced-lt middle k w v j (subst (λ (x : ℕ). middle < 2 ^ x) e middle-lt)) in
        sym
        (ap₂ split (ap eights n ∙ eights-append (a + m) q ∙ ap (λ (ws : List ℕ). ws ++ eights q) (eights-append a m))
        (replaced-middle v ∙ ap₂ (λ (x y : ℕ). (before * 2 ^ x + r) * 2 ^ y + after) (sym (total-eights m)) (sym (total-eights q)))
        ∙ split-append (eights a ++ eights m) (eights q) (before * 2 ^ total (eights m) + r) after (subst (λ (x : ℕ). after < 2 ^ x) (sym (total-eights q)) after-lt)
        ∙ ap₂ ◌++◌
        (split-append (eights a) (eights m) before r (subst (λ (x : ℕ). r < 2 ^ x) (sym (total-eights m)) small)
        ∙ ap (λ (p : List ℕ). p ++ split (eights m) r) (own (take a s) (bytes_take a s b) a (length-take-le a s (omega arith))))
        (own (drop m (drop a s)) (bytes_drop m (drop a s) (bytes_drop a s b)) q size)
        ∙ append_assoc (take a s) (split (eights m) r) (drop m (drop a s)))

-- ---- what lies in s, and what does not

pub inside : (s : List ℕ) (first w : ℕ) → w ≤ 56 → first + w ≤ 8 * length s → lies s first w ≡ true
unfolding lies
inside s first w n h = rw (le-leb w 56 n, le-leb (first + w) (8 * length s) h)

pub too_wide : (s : List ℕ) (first w : ℕ) → 56 < w → lies s first w ≡ false
unfolding lies
too_wide s first w h = rw (lt-leb w 56 h)

pub past_end : (s : List ℕ) (first w : ℕ) → w ≤ 56 → 8 * length s < first + w → lies s first w ≡ false
unfolding lies
past_end s first w n h = rw (le-leb w 56 n, lt-leb (first + w) (8 * length s) h)

-- ---- as the code finds it

pub one_shl : (w : ℕ) → w < 64 → 1 * 2 ^ w % 2 ^ 64 ≡ 2 ^ w
one_shl w h = ap (λ (x : ℕ). x % 2 ^ 64) (one-mul (2 ^ w)) ∙ mod-eq_of_lt (pow-lt h)

-- the terms of `replace`, whose sum is one word
module _ (n k w v : ℕ) (h : n < 2 ^ 64) (l : w + k < 64) where
  pub lower_part : v % (1 * 2 ^ w % 2 ^ 64) * 2 ^ k % 2 ^ 64 + n % (1 * 2 ^ k % 2 ^ 64) ≡ v % 2 ^ w * 2 ^ k + n % 2 ^ k
  lower_part =
      rw (one_shl w (omega arith), one_shl k (omega arith)) (ap (λ (x : ℕ). x + n % 2 ^ k) (shl_exact {a = v % 2 ^ w} w k 64 (mod-lt v (pow_pos w)) (omega arith)))

  pub lower_fits : v % 2 ^ w * 2 ^ k + n % 2 ^ k < 2 ^ 64
  lower_fits = lt_trans (inner_lt n k w v) (pow-lt l)

  pub upper_part : n / 2 ^ (w + k) * 2 ^ (w + k) % 2 ^ 64 ≡ n / 2 ^ (w + k) * 2 ^ (w + k)
  upper_part = mod-eq_of_lt (lt_of_le_of_lt (div-mul-le_self n (2 ^ (w + k))) h)

  pub one_word_fits : replaced n k w v < 2 ^ 64
  one_word_fits =
      let e : 64 - (w + k) + (w + k) ≡ 64 = omega arith in
      subst (λ (x : ℕ). replaced n k w v < 2 ^ x) e (replaced-lt n k w v (64 - (w + k)) (subst (λ (x : ℕ). n < 2 ^ x) (sym e) h))

module _ (s : List ℕ) (first w : ℕ) (b : Bytes s) (n : w ≤ 56) (l : first / 8 + (first % 8 + w + 7) / 8 ≤ length s) where
  abbrev start : ℕ
  start = first / 8

  abbrev many : ℕ
  many = (first % 8 + w + 7) / 8

  abbrev low : ℕ
  low = (start + many - start) * 8 - (first % 8 + w)

  found : lies s first w ≡ true
  found = inside s first w n (omega arith)

  parts : 8 * many ≡ first % 8 + (w + low)
  parts = omega arith

  depth : 8 * (length s - (start + many)) + low ≡ behind s first w
  depth = omega arith

  abbrev part : List ℕ
  part = take (start + many - start) (drop start s)

  taken : start + many - start ≡ many
  taken = add-sub_cancel_left start many

  one_word : num part % 2 ^ 64 ≡ num (take many (drop start s))
  one_word = ap (λ (i : ℕ). num (take i (drop start s)) % 2 ^ 64) taken ∙ part_word s start many b (omega arith) l

  pub read_place : (x : ℕ) → x ≡ num part % 2 ^ 64 → x / 2 ^ low % (1 * 2 ^ w % 2 ^ 64) ≡ field_at s first w
  unfolding field_at
  read_place x h =
      ap₂ (λ (y p : ℕ). y / 2 ^ low % p) (h ∙ one_word) (one_shl w (omega arith))
      ∙ sym (field_middle s start many b l (first % 8) w low parts)
      ∙ rw found (ap (λ (i : ℕ). num s / 2 ^ i % 2 ^ w) depth)

  pub put_place : (v x y : ℕ) (zs : List ℕ) → x ≡ num part % 2 ^ 64 → y ≡ replaced x low w v → zs ≡ split (eights (length part)) y
      → take start s ++ (zs ++ drop (start + many - start) (drop start s)) ≡ put_at s first w v
  unfolding put_at
  put_place v x y zs h g e =
      let k : length part ≡ many = simp (length-take, length-drop) (omega arith) in
      let r = g ∙ ap (λ (z : ℕ). replaced z low w v) (h ∙ one_word) in
      ap₂ (λ (z : List ℕ) (i : ℕ). take start s ++ (z ++ drop i (drop start s))) (e ∙ ap₂ (λ (i z : ℕ). split (eights i) z) k r) taken
      ∙ put_middle s start many b l (first % 8) w low parts v
      ∙ rw found (ap (λ (i : ℕ). split (eights (length s)) (replaced (num s) i w v)) depth)
