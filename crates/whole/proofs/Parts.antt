-- How `omega`, which reads no ℤ, proves facts of whole numbers: z is the difference of two naturals, `up z` above zero and `dn z` below it.
-- Each law is linear in the parts, so `omega (arith, add_parts a b, ..)` does over ℤ what `omega arith` does over ℕ.
-- Assumes nothing.
use mathlib.Core.Path.{◌≡◌, refl, ap, ◌∙◌}
use mathlib.Core.Bool.{Bool, true, false, cond}
use Prim.Native.Nat.{ℕ, zero, suc, ◌+◌, ◌*◌, ◌-◌, ◌≤◌, ◌<◌}
use native.Mathlib.Omega.{arith}
use lib.Dec.{ltb}
use lib.IntN.{ℤ, pos, negsuc, neg_ℤ, sub_ℕ, ◌+ℤ◌, ◌-ℤ◌, ◌*ℤ◌}
use borrow.Author.Tests.{ltb-true, ltb-false}
use Rattle.whole.specs.Floor.{cut}

-- what of z is above zero
abbrev pub up : ℤ → ℕ
up z = cut z

-- what of z is below zero
abbrev pub dn : ℤ → ℕ
dn (pos n) = 0
dn (negsuc n) = suc n

-- a ≤ b, and a < b, over their parts
abbrev pub AtMost : ℤ → ℤ → Type 0
AtMost a b = up a + dn b ≤ up b + dn a

abbrev pub Below : ℤ → ℤ → Type 0
Below a b = up a + dn b < up b + dn a

-- one of the two parts is zero: the order of two numbers is the order of either part
pub up_mono : (a b : ℤ) → AtMost a b → up a ≤ up b
up_mono (pos a) (pos b) h = omega arith
up_mono (pos a) (negsuc b) h = omega arith
up_mono (negsuc a) (pos b) h = omega arith
up_mono (negsuc a) (negsuc b) h = omega arith

pub dn_mono : (a b : ℤ) → AtMost a b → dn b ≤ dn a
dn_mono (pos a) (pos b) h = omega arith
dn_mono (pos a) (negsuc b) h = omega arith
dn_mono (negsuc a) (pos b) h = omega arith
dn_mono (negsuc a) (negsuc b) h = omega arith

pub parts_eq : (a b : ℤ) → up a + dn b ≡ up b + dn a → a ≡ b
parts_eq (pos a) (pos b) h = ap pos (omega arith)
parts_eq (pos a) (negsuc b) h = absurd (omega arith)
parts_eq (negsuc a) (pos b) h = absurd (omega arith)
parts_eq (negsuc a) (negsuc b) h = ap negsuc (omega arith)

-- ---- sums, differences, products
difference : (a b : ℕ) → up (sub_ℕ a b) + b ≡ a + dn (sub_ℕ a b)
difference a b = go (ltb a b) refl
  where
    go : (t : Bool) → ltb a b ≡ t → let z = cond t (negsuc (b - suc a)) (pos (a - b)) in up z + b ≡ a + dn z
    go true e = omega (arith, ltb-true a b e)
    go false e = omega (arith, ltb-false a b e)

pub add_parts : (a b : ℤ) → up (a +ℤ b) + (dn a + dn b) ≡ up a + up b + dn (a +ℤ b)
add_parts (pos a) (pos b) = omega arith
add_parts (pos a) (negsuc b) = omega (arith, difference a (suc b))
add_parts (negsuc a) (pos b) = omega (arith, difference b (suc a))
add_parts (negsuc a) (negsuc b) = omega arith

pub neg_up : (a : ℤ) → up (neg_ℤ a) ≡ dn a
neg_up (pos zero) = refl
neg_up (pos (suc n)) = refl
neg_up (negsuc n) = refl

pub neg_dn : (a : ℤ) → dn (neg_ℤ a) ≡ up a
neg_dn (pos zero) = refl
neg_dn (pos (suc n)) = refl
neg_dn (negsuc n) = refl

pub sub_parts : (a b : ℤ) → up (a -ℤ b) + (dn a + up b) ≡ up a + dn b + dn (a -ℤ b)
sub_parts a b = omega (arith, add_parts a (neg_ℤ b), neg_up b, neg_dn b)

-- a multiple by a natural number
pub times_up : (k : ℕ) (a : ℤ) → up (pos k *ℤ a) ≡ k * up a
times_up k (pos a) = refl
times_up k (negsuc a) = neg_up (pos (k * suc a)) ∙ omega arith

pub times_dn : (k : ℕ) (a : ℤ) → dn (pos k *ℤ a) ≡ k * dn a
times_dn k (pos a) = omega arith
times_dn k (negsuc a) = neg_dn (pos (k * suc a))
