-- What the judge of rows finds is what their table says. Assumes nothing.
use Rattle.std.proofs.Common.{◌≡◌, ◌*◌, ◌≤◌, ◌<◌, ◌^◌, ℕ, Bool, true, ◌&&◌, leb, eqb, refl, ap, arith}
use native.Mathlib.Nat.{mul-le-mul_left}
use Rattle.bits.proofs.Ranges.{and-true_right}
use Rattle.table.specs.Sizes.{Sizes}
use Rattle.table.specs.Table.{Table, counted, closed, lawful, lawful_of}
use Rattle.table.proofs.Judging.{lawful_sound, lawful_same}

module _ {A : Type 0} (t : Table A) where
  -- the test of the number, which has the code's constants
  pub counted_is : (few most : ℕ) → t.fewest ≡ few → t.most ≡ most → (whole : Bool) (n : ℕ) → whole && (leb few n && leb n most) ≡ whole && counted t n
  unfolding counted
  counted_is few most least greatest whole n = rw (least, greatest) refl

  -- where there is no record none is the last
  pub none_last : (n : ℕ) (f : ℕ → A) → n ≡ 0 → eqb n 0 ≡ closed t n f
  none_last n f e = rw e refl

  module _ (same : Bool) (n : ℕ) (f : ℕ → A) (clean : ℕ → Bool) (spotless : (k : ℕ) → clean k ≡ true) where
    -- values have no bits that could be wrong
    pub kept_is : same && lawful t n f clean ≡ lawful_of t same n f
    kept_is = ap (λ (b : Bool). same && b) (lawful_same t f f clean (λ k. true) n (λ k l. refl) (λ k l. spotless k))

  -- as many as a table may have take few bytes
  pub fits : {size few most : ℕ} → Sizes t size few most → (same : Bool) (n : ℕ) (f : ℕ → A) (clean : ℕ → Bool) → same && lawful t n f clean ≡ true → size * n < 2 ^ 32
  fits {size} {few} {most} z same n f clean h =
      let s = lawful_sound t n f clean (and-true_right same _ h) in
      let l : size * n ≤ size * most = mul-le-mul_left size (omega (arith, s.most, z.greatest)) in
      omega (arith, l, z.small)
