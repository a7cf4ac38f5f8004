-- Two lists of bytes that differ in one place. Assumes nothing.
use mathlib.Core.Path.{◌≡◌, sym, ap, subst, ◌∙◌}
use Prim.Native.Nat.{ℕ, suc, ◌+◌, ◌*◌, ◌≤◌, ◌<◌}
use native.Mathlib.Omega.{arith}
use mathlib.Core.List.{List, [], ◌∷◌}
use lib.ListN.{length}
use Rattle.bits.specs.Bytes.{Bytes}
use Rattle.seal.specs.Seal.{sum}
use Rattle.seal.specs.Apart.{apart}
use Rattle.seal.proofs.Apart.{front, none_apart}
use Rattle.seal.proofs.Sums.{weighed}

-- the bytes there, how often they count in the second sum, and what all the others come to in both
pub record Gap (s t : List ℕ) : Type 0 where
  pub a : ℕ
  pub b : ℕ
  pub w : ℕ
  pub others : ℕ
  pub weights : ℕ
  pub differ : a ≡ b → ⊥
  pub a_byte : a < 256
  pub b_byte : b < 256
  pub counts : 1 ≤ w
  pub inside : w ≤ length s
  pub first : sum s ≡ others + a
  pub second : sum t ≡ others + b
  pub first_weighed : weighed s ≡ weights + w * a
  pub second_weighed : weighed t ≡ weights + w * b

gap_same : (x : ℕ) (s t : List ℕ) → length s ≡ length t → Gap s t → Gap (x ∷ s) (x ∷ t)
gap_same x s t n g = record {
  a = g.a;
  b = g.b;
  w = g.w;
  others = x + g.others;
  weights = suc (length s) * x + g.weights;
  differ = g.differ;
  a_byte = g.a_byte;
  b_byte = g.b_byte;
  counts = g.counts;
  inside = omega (arith, g.inside);
  first = omega (arith, g.first);
  second = omega (arith, g.second);
  first_weighed = omega (arith, g.first_weighed);
  second_weighed = ap (λ (k : ℕ). suc k * x + weighed t) (sym n) ∙ omega (arith, g.second_weighed);
}

gap_other : (x y : ℕ) (s : List ℕ) → x < 256 → y < 256 → (x ≡ y → ⊥) → Gap (x ∷ s) (y ∷ s)
gap_other x y s bx by ne = record {
  a = x;
  b = y;
  w = suc (length s);
  others = sum s;
  weights = weighed s;
  differ = ne;
  a_byte = bx;
  b_byte = by;
  counts = omega arith;
  inside = omega arith;
  first = omega arith;
  second = omega arith;
  first_weighed = omega arith;
  second_weighed = omega arith;
}

pub gap : (s t : List ℕ) → Bytes s → Bytes t → length s ≡ length t → apart s t ≡ 1 → Gap s t
gap [] t bs bt l h = absurd (omega arith)
gap (x ∷ s) [] bs bt l h = absurd (omega arith)
gap (x ∷ s) (y ∷ t) bs bt l h =
    front x y (apart s t) 1 h
    (λ e k. subst (λ (z : ℕ). Gap (x ∷ s) (z ∷ t)) e (gap_same x s t (omega arith) (gap s t (λ i. bs (suc i)) (λ i. bt (suc i)) (omega arith) k)))
    (λ e k. subst (λ (u : List ℕ). Gap (x ∷ s) (y ∷ u)) (none_apart s t (omega arith) (omega arith)) (gap_other x y s (bs 0) (bt 0) e))
