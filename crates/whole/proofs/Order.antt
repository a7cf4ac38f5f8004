-- The order of ℤ over the parts: what a signed test of code (`lt_z`, `le_z`) tells, what decides it, and the orders `≤ℤ` and `<ℤ`.
-- The names are those of `borrow.Author.Tests`, with Z for b. Assumes nothing.
use mathlib.Core.Path.{◌≡◌, refl, sym, ◌∙◌, subst}
use mathlib.Core.Bool.{Bool, true, false}
use Prim.Native.Nat.{ℕ, suc, ◌+◌}
use native.Mathlib.Omega.{arith}
use lib.Dec.{T, ltb, leb, lt→ltb, le→leb, ltb→lt, leb→le}
use lib.IntN.{ℤ, pos, negsuc}
use lib.Signed.{le_z, lt_z, ◌≤ℤ◌, ◌<ℤ◌}
use borrow.Author.Tests.{ltb-true, ltb-false, leb-true, leb-false, lt-ltb, le-ltb, le-leb, lt-leb}
use Rattle.whole.proofs.Parts.{up, dn, AtMost, Below}

-- the same amount on both sides changes no test
same_leb : (a b c d : ℕ) → a + d ≡ c + b → leb a b ≡ leb c d
same_leb a b c d e = go (leb c d) refl
  where
    go : (t : Bool) → leb c d ≡ t → leb a b ≡ t
    go true h = le-leb a b (omega (arith, leb-true c d h))
    go false h = lt-leb a b (omega (arith, leb-false c d h))

same_ltb : (a b c d : ℕ) → a + d ≡ c + b → ltb a b ≡ ltb c d
same_ltb a b c d e = same_leb (suc a) b (suc c) d (omega arith)

lt_z_parts : (a b : ℤ) → lt_z a b ≡ ltb (up a + dn b) (up b + dn a)
lt_z_parts (pos a) (pos b) = same_ltb a b (a + 0) (b + 0) (omega arith)
lt_z_parts (pos a) (negsuc b) = sym (le-ltb (a + suc b) (0 + 0) (omega arith))
lt_z_parts (negsuc a) (pos b) = sym (lt-ltb (0 + 0) (b + suc a) (omega arith))
lt_z_parts (negsuc a) (negsuc b) = same_ltb b a (0 + suc b) (0 + suc a) (omega arith)

le_z_parts : (a b : ℤ) → le_z a b ≡ leb (up a + dn b) (up b + dn a)
le_z_parts (pos a) (pos b) = same_leb a b (a + 0) (b + 0) (omega arith)
le_z_parts (pos a) (negsuc b) = sym (lt-leb (a + suc b) (0 + 0) (omega arith))
le_z_parts (negsuc a) (pos b) = sym (le-leb (0 + 0) (b + suc a) (omega arith))
le_z_parts (negsuc a) (negsuc b) = same_leb b a (0 + suc b) (0 + suc a) (omega arith)

module _ (a b : ℤ) where
  -- what a test tells
  pub lt_z-true : lt_z a b ≡ true → Below a b
  lt_z-true e = ltb-true _ _ (sym (lt_z_parts a b) ∙ e)

  pub lt_z-false : lt_z a b ≡ false → AtMost b a
  lt_z-false e = ltb-false _ _ (sym (lt_z_parts a b) ∙ e)

  pub le_z-true : le_z a b ≡ true → AtMost a b
  le_z-true e = leb-true _ _ (sym (le_z_parts a b) ∙ e)

  pub le_z-false : le_z a b ≡ false → Below b a
  le_z-false e = leb-false _ _ (sym (le_z_parts a b) ∙ e)

  -- the orders
  pub parts_le : AtMost a b → a ≤ℤ b
  parts_le h = record { le = subst T (sym (le_z_parts a b)) (le→leb _ _ h) }

  pub parts_lt : Below a b → a <ℤ b
  parts_lt h = record { lt = subst T (sym (lt_z_parts a b)) (lt→ltb _ _ h) }

pub le_parts : {a b : ℤ} → a ≤ℤ b → AtMost a b
le_parts {a} {b} h = leb→le _ _ (subst T (le_z_parts a b) h.le)

pub lt_parts : {a b : ℤ} → a <ℤ b → Below a b
lt_parts {a} {b} h = ltb→lt _ _ (subst T (lt_z_parts a b) h.lt)
