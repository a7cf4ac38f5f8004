-- Text that is put before a place of the lent bytes. Assumes nothing.
use mathlib.Core.Path.{◌≡◌, ap, ◌∙◌, sym}
use Prim.Native.Nat.{ℕ, suc, ◌+◌, ◌-◌, ◌<◌, ◌≤◌}
use native.Mathlib.Omega.{arith}
use native.Mathlib.Nat.{sub-zero}
use mathlib.Core.List.{List, [], ◌∷◌, ◌++◌, append_assoc}
use lib.ListN.{length, take, drop, set, take-append-drop, length-append, length-take, length-drop}
use lib.Seq.{length-take-le, take-append-le, take-take, drop_at, set_split}
use Rattle.line.specs.Line.{put_before}

-- no text
pub put_none : (end : ℕ) (out : List ℕ) → (end, out) ≡ put_before [] end out
unfolding put_before
put_none end out = rw (sub-zero end) (ap (λ (l : List ℕ). (end, l)) (sym (take-append-drop end out)))

module _ (end : ℕ) (out : List ℕ) (inside : end ≤ length out) where
  -- a byte
  pub put_one : (b : ℕ) → 0 < end → (end - 1, set out (end - 1) b) ≡ put_before (b ∷ []) end out
  unfolding put_before
  put_one b h =
      let e : suc (end - 1) ≡ end = omega arith in
      ap (λ (l : List ℕ). (end - 1, l)) (set_split out (end - 1) b (omega arith) ∙ ap (λ (k : ℕ). take (end - 1) out ++ b ∷ drop k out) e)

  -- where text begins that is put, and that no byte is added
  pub put_at : (b : List ℕ) (at : ℕ) (now : List ℕ) → length b ≤ end → (at, now) ≡ put_before b end out → (at + length b ≡ end) × (length now ≡ length out)
  unfolding put_before
  put_at b at now room e =
      let n : length (take (end - length b) out ++ (b ++ drop end out)) ≡ length out = simp (length-append, length-take, length-drop) (omega arith) in
      (omega (arith, ap (λ (p : ℕ × List ℕ). p.0) e), ap (λ (p : ℕ × List ℕ). length p.1) e ∙ n)

  -- text before text that is put already
  pub put_on : (a b : List ℕ) (at : ℕ) (now : List ℕ) → length a + length b ≤ end → (at, now) ≡ put_before b end out
      → put_before a at now ≡ put_before (a ++ b) end out
  unfolding put_before
  put_on a b at now room e =
      let from = end - length b in
      let tail = b ++ drop end out in
      let l : length (take from out) ≡ from = length-take-le from out (omega arith) in
      let n : end - length (a ++ b) ≡ from - length a = omega (arith, length-append a b) in
      let t : take (from - length a) (take from out ++ tail) ≡ take (from - length a) out =
      take-append-le (from - length a) (take from out) tail (omega arith) ∙ take-take (from - length a) from out (omega arith) in
      let d : drop from (take from out ++ tail) ≡ tail = drop_at (take from out) tail from l in
      ap (λ (p : ℕ × List ℕ). put_before a p.0 p.1) e ∙ rw (n, t, d, append_assoc a b (drop end out))
