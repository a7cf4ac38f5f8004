-- The whole square root. That `root_of` is the root, `IsRoot`, and nothing else is, are `root_is` and `root_unique` of proofs/Roots.antt. Assumes nothing.
use Rattle.std.specs.Prelude.{cond, ℕ, zero, suc, ◌+◌, ◌*◌, ◌/◌, ◌≤◌, ◌<◌, leb, eqb}

-- r is the "whole square root of q": the greatest whole number whose square is not above q
pub record IsRoot (q r : ℕ) : Type 0 where
  pub low : r * r ≤ q
  pub high : q < (r + 1) * (r + 1)

-- the root of q, from the root r of q / 4: one binary digit more
abbrev pub next : ℕ → ℕ → ℕ
next q r = cond (leb ((2 * r + 1) * (2 * r + 1)) q) (2 * r + 1) (2 * r)

-- the root of q, which has at most n digits to the base 4
unfoldable pub digits : ℕ → ℕ → ℕ
digits zero q = 0
digits (suc n) q = let r = digits n (q / 4) in cond (eqb q 0) 0 (next q r)

-- the whole square root of q
unfoldable pub root_of : ℕ → ℕ
root_of q = digits q q
