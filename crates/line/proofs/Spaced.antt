-- A line that is put number by number, the last first. Assumes nothing.
use mathlib.Core.Path.{◌≡◌, refl, ap, ◌∙◌}
use Prim.Native.Nat.{ℕ, ◌+◌, ◌^◌, ◌<◌, ◌≤◌}
use native.Mathlib.Omega.{arith}
use mathlib.Core.List.{List, [], ◌∷◌, ◌++◌, append_assoc}
use lib.ListN.{length, length-append}
use Rattle.line.specs.Line.{decimal, separator, spaced, put_before}
use Rattle.line.proofs.Decimal.{ten_digits}
use Rattle.line.proofs.Put.{put_none, put_at, put_on}

-- the numbers stand before place `end` of the lent bytes, and before them so many places are left
pub record Stands (end : ℕ) (out ns : List ℕ) (left at : ℕ) (now : List ℕ) : Type 0 where
  pub text : (at, now) ≡ put_before (spaced ns) end out
  pub fit : at + length (spaced ns) ≡ end
  pub same : length now ≡ length out
  pub room : left ≤ at

pub none_stands : (end : ℕ) (out : List ℕ) (left : ℕ) → left ≤ end → Stands end out [] left end out
none_stands end out left h = record { text = put_none end out; fit = omega arith; same = refl; room = h }

-- a number of 32 bits, put before numbers that stand already
pub more_stands : (end : ℕ) (out ns now o : List ℕ) (n left before at r : ℕ) → end ≤ length out → n < 2 ^ 32 → left + 11 ≤ before → Stands end out ns before at now
    → (r, o) ≡ put_before (decimal n ++ separator ns ∷ []) at now → Stands end out (n ∷ ns) left r o
more_stands end out ns now o n left before at r inside h room s e =
    let item = decimal n ++ separator ns ∷ [] in
    let i : length item ≤ 11 = simp length-append (omega (arith, ten_digits n h)) in
    let t : item ++ spaced ns ≡ spaced (n ∷ ns) = append_assoc (decimal n) (separator ns ∷ []) (spaced ns) in
    let p = put_at at now (omega arith) item r o (omega arith) e in
    record {
      text = e ∙ put_on end out inside item (spaced ns) at now (omega arith) s.text ∙ ap (λ (l : List ℕ). put_before l end out) t;
      fit = omega (arith, ap length t, length-append item (spaced ns));
      same = p.1 ∙ s.same;
      room = omega arith;
    }
