-- What a loop that puts record after record needs, and what the writer answers. Assumes nothing.
use mathlib.Core.Path.{◌≡◌, refl, sym, ap, ap₂, ◌∙◌}
use mathlib.Core.Bool.{Bool, true, false, not}
use mathlib.Core.List.{List, [], ◌∷◌, ◌++◌, append_assoc}
use Prim.Native.Nat.{ℕ, zero, suc, ◌+◌, ◌*◌, ◌≤◌, ◌<◌}
use native.Mathlib.Nat.{not-suc-le-zero, mul-zero, mul-suc, mul-le-mul_left, le_antisymm}
use native.Mathlib.Numerals.{add-one}
use native.Mathlib.Decide.{ℕ_discrete}
use native.Mathlib.Omega.{arith}
use lib.Dec.{ltb}
use lib.ListN.{length, length-append, length-drop, take, drop}
use lib.Seq.{take_at, drop_at, drop-drop, take-add}
use borrow.Author.Tests.{le-ltb}
use Rattle.bits.specs.Fields.{join}
use Rattle.bits.specs.Bytes.{eights, Bytes}
use Rattle.bits.specs.Places.{put_from}
use Rattle.bits.specs.Tables.{part}
use Rattle.bits.proofs.Fields.{length-split}
use Rattle.bits.proofs.Bytes.{length-eights, bytes_drop}
use Rattle.bits.proofs.Places.{put_all}
use Rattle.bits.proofs.Ranges.{and-true_right}
use Rattle.refusal.specs.Written.{no_room, written}
use Rattle.refusal.specs.declared.Refusal.TheVariants.{NoRoom}
use Rattle.refusal.specs.Verdict.{Accepted, Refused}
use Rattle.refusal.proofs.Steps.{first_of, in_order}
use Rattle.table.specs.Table.{Table, lawful, record_bytes, put_at, bytes_of, lawful_of, write_rules, write}
use Rattle.table.specs.Facts.{Facts}
use Rattle.table.proofs.Judging.{lawful_sound}

module _ {A : Type 0} (t : Table A) (f : ℕ → A) where
  one_length : (g : A) → length (record_bytes t g) ≡ t.size
  one_length g = length-split (eights t.size) (join t.widths (t.fields_of g)) ∙ length-eights t.size

  pub length-bytes_of : (n : ℕ) → length (bytes_of t n f) ≡ t.size * n
  unfolding bytes_of
  length-bytes_of zero = sym (mul-zero t.size)
  length-bytes_of (suc n) = length-append (bytes_of t n f) (record_bytes t (f n)) ∙ omega (arith, length-bytes_of n, one_length (f n), mul-suc t.size n)

  -- what is written as record k is read as record k, whatever follows the table
  pub part_of_bytes : (n k : ℕ) (rest : List ℕ) → k < n → part t.size (bytes_of t n f ++ rest) k ≡ record_bytes t (f k)
  unfolding bytes_of
  part_of_bytes zero k rest h = absurd (not-suc-le-zero h)
  part_of_bytes (suc n) k rest h =
      ap (λ (s : List ℕ). part t.size s k) (append_assoc (bytes_of t n f) (record_bytes t (f n)) rest)
      ∙ by (ℕ_discrete k n) (part_of_bytes n k (record_bytes t (f n) ++ rest))
    where
      all : List ℕ
      all = bytes_of t n f ++ (record_bytes t (f n) ++ rest)

      by : Dec (k ≡ n) → (k < n → part t.size all k ≡ record_bytes t (f k)) → part t.size all k ≡ record_bytes t (f k)
      by (yes p) r =
          ap (λ (i : ℕ). part t.size all i) p
          ∙ ap (take t.size) (drop_at (bytes_of t n f) _ (t.size * n) (length-bytes_of n))
          ∙ take_at (record_bytes t (f n)) rest t.size (one_length (f n))
          ∙ ap (λ (i : ℕ). record_bytes t (f i)) (sym p)
      by (no p) r = r (omega arith)

  -- records whose bytes are the parts of s are the front of s
  pub bytes_of_parts : (n : ℕ) (s : List ℕ) → ((k : ℕ) → k < n → record_bytes t (f k) ≡ part t.size s k) → bytes_of t n f ≡ take (t.size * n) s
  unfolding bytes_of
  bytes_of_parts zero s h = ap (λ (i : ℕ). take i s) (sym (mul-zero t.size))
  bytes_of_parts (suc n) s h =
      ap₂ ◌++◌ (bytes_of_parts n s (λ k l. h k (omega arith))) (h n (omega arith))
      ∙ sym (take-add (t.size * n) t.size s)
      ∙ ap (λ (i : ℕ). take i s) (sym (mul-suc t.size n))

  -- ---- a loop over n values

  -- they keep the rules, there is room for them, and the first k stand before the rest of xs
  pub record Put (same : Bool) (n : ℕ) (xs : List ℕ) (k : ℕ) (out : List ℕ) : Type 0 where
    pub right : lawful_of t same n f ≡ true
    pub room : t.size * n ≤ length xs
    pub within : k ≤ n
    pub long : length out ≡ length xs
    pub so_far : out ≡ bytes_of t k f ++ drop (t.size * k) xs

  pub put_none : (same : Bool) (n : ℕ) (xs : List ℕ) → lawful_of t same n f ≡ true → t.size * n ≤ length xs → Put same n xs 0 xs
  unfolding bytes_of
  put_none same n xs h r = record { right = h; room = r; within = omega arith; long = refl; so_far = ap (λ (i : ℕ). drop i xs) (sym (mul-zero t.size)) }

  pub put_ranged : {same : Bool} {n : ℕ} {xs : List ℕ} {k : ℕ} {out : List ℕ} → Put same n xs k out → k < n → t.in_range (f k) ≡ true
  put_ranged {same} {n} {xs} {k} {out} p l = (lawful_sound t n f (λ i. true) (and-true_right same (lawful t n f (λ i. true)) p.right)).each k l

  pub put_inside : {same : Bool} {n : ℕ} {xs : List ℕ} {k : ℕ} {out : List ℕ} → Put same n xs k out → t.size * k ≤ length out
  put_inside {same} {n} {xs} {k} {out} p =
      let l : t.size * k ≤ t.size * n = mul-le-mul_left t.size p.within in
      omega (arith, l, p.room, p.long)

  -- and one more, which is g
  pub put_next : Facts t → {same : Bool} {n : ℕ} {xs : List ℕ} {k : ℕ} {out : List ℕ} → Put same n xs k out → k < n → Bytes xs → (g : A) → g ≡ f k
      → Put same n xs (k + 1) (put_at t g k out)
  unfolding bytes_of
  put_next facts {same} {n} {xs} {k} {out} p l b g is =
      let w = t.size in
      let fits : w * suc k ≤ w * n = mul-le-mul_left w l in
      let rest = drop (w * k) xs in
      let room : w ≤ length rest = omega (arith, length-drop (w * k) xs, p.room, mul-suc w k) in
      let behind : drop (w * k) out ≡ rest = ap (drop (w * k)) p.so_far ∙ drop_at (bytes_of t k f) rest (w * k) (length-bytes_of k) in
      let one = record_bytes t (f k) in
      let next : put_at t g k out ≡ bytes_of t (suc k) f ++ drop (w * suc k) xs =
      ap₂ ◌++◌
      (ap (take (w * k)) p.so_far ∙ take_at (bytes_of t k f) rest (w * k) (length-bytes_of k))
      (ap₂ (λ (x : A) (y : List ℕ). put_from 0 t.widths (t.fields_of x) y) is behind
      ∙ put_all w t.widths (t.fields_of (f k)) rest facts.narrow facts.whole (facts.fits (f k) (put_ranged p l)) (bytes_drop (w * k) xs b) room
      ∙ ap (λ (x : List ℕ). one ++ x) (drop-drop w (w * k) xs ∙ ap (λ (i : ℕ). drop i xs) (sym (mul-suc w k))))
      ∙ sym (append_assoc (bytes_of t k f) one _) in
      let long : _ ≡ length xs = ap length next ∙ length-append (bytes_of t (suc k) f) _ ∙ omega (arith, length-bytes_of (suc k), length-drop (w * suc k) xs, p.room) in
      rw (add-one k) (record { right = p.right; room = p.room; within = l; long = long; so_far = next })

  -- ---- the writer

  pub write_is : Facts t → (same : Bool) (n : ℕ) (out : List ℕ) (a b : Bool) → lawful_of t same n f ≡ a → no_room (t.size * n) out ≡ b
      → write t same n f out ≡ written (first_of ((not a, t.broken) ∷ (b, NoRoom) ∷ [])) (bytes_of t n f) out
  unfolding write
  write_is facts same n out a b h e = rw (in_order (write_rules t same n f out) facts.first, h, e)

  module _ (facts : Facts t) (same : Bool) (n : ℕ) (out : List ℕ) where
    pub broken_is : lawful_of t same n f ≡ false → (Refused t.broken, out) ≡ write t same n f out
    broken_is h = sym (write_is facts same n out false _ h refl)

    pub no_room_is : lawful_of t same n f ≡ true → ltb (length out) (t.size * n) ≡ true → (Refused NoRoom, out) ≡ write t same n f out
    unfolding no_room
    no_room_is h e = sym (write_is facts same n out true true h e)

  pub write_accepted : Facts t → (same : Bool) (n : ℕ) (out : List ℕ) → lawful_of t same n f ≡ true → t.size * n ≤ length out
      → write t same n f out ≡ (Accepted, bytes_of t n f ++ drop (t.size * n) out)
  unfolding no_room
  write_accepted facts same n out k h =
      write_is facts same n out true false k (le-ltb (length out) (t.size * n) h)
      ∙ ap (λ (i : ℕ). (Accepted, bytes_of t n f ++ drop i out)) (length-bytes_of n)

  -- all of them are put
  pub put_all_of : Facts t → {same : Bool} {n : ℕ} {xs : List ℕ} {k : ℕ} {out : List ℕ} → Put same n xs k out → n ≤ k → (Accepted, out) ≡ write t same n f xs
  put_all_of facts {same} {n} {xs} {k} {out} p l =
      ap (λ (x : List ℕ). (Accepted, x)) (p.so_far ∙ ap (λ (i : ℕ). bytes_of t i f ++ drop (t.size * i) xs) (le_antisymm p.within l))
      ∙ sym (write_accepted facts same n xs p.right p.room)
