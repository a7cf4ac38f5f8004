-- What is taken of bytes, in two steps. Assumes nothing.
use Rattle.std.proofs.Common.{◌≡◌, ℕ, ◌+◌, ◌-◌, ◌≤◌, List, ◌++◌, length, take, drop, ap, sym, ◌∙◌, arith, rules}
use Rattle.std.proofs.Math.Seq.{take-add, take-append-add}
use Rattle.std.proofs.lemmas.List.{take-append-le, take_all}
use lib.ListN.{length-drop}
use borrow.Rule.Slice.PartMut.{put_mid}

front : (p ys z : List ℕ) (a n : ℕ) → length p ≡ a → n ≤ length ys → take (a + n) (p ++ (ys ++ z)) ≡ p ++ take n ys
front p ys z a n e i = rw (← e) (take-append-add p (ys ++ z) n ∙ ap (λ t. p ++ t) (take-append-le n ys z i))

pub take-written : (a k n : ℕ) (xs ys : List ℕ) → a ≤ length xs → n ≤ length ys → take (a + n) (put_mid a k xs ys) ≡ take a xs ++ take n ys
take-written a k n xs ys h i = front (take a xs) ys _ a n (search (rules, arith)) i

-- the front of what is left
pub take-left : (a n : ℕ) (xs : List ℕ) → take (a + n) xs ≡ take a xs ++ take n (take (length xs - a) (drop a xs))
take-left a n xs = take-add a n xs ∙ ap (λ l. take a xs ++ take n l) (sym (take_all (length xs - a) (drop a xs) (omega (arith, length-drop a xs))))
