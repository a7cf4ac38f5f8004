-- What a loop that puts block after block needs. Assumes nothing.
use mathlib.Core.Path.{◌≡◌, refl, ap, ap₂, ◌∙◌}
use mathlib.Core.List.{List, ◌++◌}
use Prim.Native.Nat.{ℕ, suc, ◌+◌, ◌*◌, ◌≤◌}
use native.Mathlib.Numerals.{add-one}
use native.Mathlib.Omega.{arith}
use lib.ListN.{length, length-append, length-take, length-drop, take, drop}
use Rattle.bits.specs.Fields.{split}
use Rattle.bits.specs.Bytes.{eights}
use Rattle.bits.proofs.Parts.{put_part}
use Rattle.blocks.specs.declared.Blocks.{Blocks}
use Rattle.blocks.specs.Blocks.{size, length_of, weight_of, bytes_to}
use Rattle.blocks.specs.Steps.{word_of}
use Rattle.blocks.proofs.Bytes.{length-bytes_to}

-- the first k blocks stand before the rest of xs
pub record Put (b : Blocks) (xs : List ℕ) (k : ℕ) (out : List ℕ) : Type 0 where
  pub long : length out ≡ length xs
  pub so_far : out ≡ bytes_to b k ++ drop (size * k) xs

module _ (b : Blocks) (xs : List ℕ) where
  pub put_none : Put b xs 0 xs
  unfolding bytes_to
  put_none = record { long = refl; so_far = refl }

  -- and one more: m bytes of the number x
  pub put_next : (k : ℕ) (out : List ℕ) → Put b xs k out → size * (k + 1) ≤ length xs → (m x : ℕ) (zs : List ℕ) → m ≡ size → x ≡ word_of (length_of b k) (weight_of b k)
      → zs ≡ split (eights (length (take m (drop (size * k) out)))) x → Put b xs (k + 1) (take (size * k) out ++ (zs ++ drop m (drop (size * k) out)))
  unfolding bytes_to
  put_next k out p room m x zs e w z =
      let four : length (take m (drop (size * k) out)) ≡ size = simp (length-take, length-drop) (omega (arith, p.long)) in
      let one : zs ≡ split (eights size) (word_of (length_of b k) (weight_of b k)) = z ∙ ap₂ (λ (n y : ℕ). split (eights n) y) four w in
      let n : size * k + m ≡ size * suc k = omega arith in
      let next : take (size * k) out ++ (zs ++ drop m (drop (size * k) out)) ≡ bytes_to b (suc k) ++ drop (size * suc k) xs =
      put_part xs (bytes_to b k) out (size * k) (length-bytes_to b k) p.so_far zs m
      ∙ ap₂ (λ (y : List ℕ) (i : ℕ). (bytes_to b k ++ y) ++ drop i xs) one n in
      let long : length (take (size * k) out ++ (zs ++ drop m (drop (size * k) out))) ≡ length xs =
      ap length next ∙ length-append (bytes_to b (suc k)) _ ∙ omega (arith, length-bytes_to b (suc k), length-drop (size * suc k) xs) in
      rw (add-one k) (record { long = long; so_far = next })
