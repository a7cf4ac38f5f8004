-- The tests of the code, in a row, are those of the ranges. Assumes nothing.
use mathlib.Core.Path.{◌≡◌, sym, ◌∙◌}
use mathlib.Core.Bool.{Bool, true, false, ◌&&◌, and_assoc, and-true, and-false}
use mathlib.Core.List.{List, [], ◌∷◌}
use Prim.Native.Nat.{ℕ, zero, suc}
use lib.Dec.{leb, leb-zero}
use Rattle.bits.specs.Ranges.{inside}
use Rattle.consist.specs.declared.Consist.{Consist}
use Rattle.consist.specs.Consist.{fields_of, ranges, in_range}

-- in a row behind a; that a range begins at 0 is not tested
abbrev row : Bool → List (ℕ × ℕ) → List ℕ → Bool
row a [] [] = a
row a [] (f ∷ fs) = false
row a (r ∷ rs) [] = false
row a ((zero, top) ∷ rs) (f ∷ fs) = row (a && leb f top) rs fs
row a ((suc least, top) ∷ rs) (f ∷ fs) = row (a && leb (suc least) f && leb f top) rs fs

row_is : (a : Bool) (rs : List (ℕ × ℕ)) (fs : List ℕ) → row a rs fs ≡ a && inside rs fs
row_is a [] [] = sym (and-true a)
row_is a [] (f ∷ fs) = sym (and-false a)
row_is a (r ∷ rs) [] = sym (and-false a)
row_is a ((zero, top) ∷ rs) (f ∷ fs) = row_is (a && leb f top) rs fs ∙ rw (leb-zero f) (and_assoc a (leb f top) _)
row_is a ((suc least, top) ∷ rs) (f ∷ fs) = row_is (a && leb (suc least) f && leb f top) rs fs ∙ simp and_assoc

pub tested : (x : Consist) → row true ranges (fields_of x) ≡ in_range x
unfolding in_range
tested x = row_is true ranges (fields_of x)
