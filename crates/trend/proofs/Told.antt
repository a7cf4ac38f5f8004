-- What is told of a result tells it: no two are told alike. Assumes nothing.
use mathlib.Core.Path.{◌≡◌, refl, sym, ap, ◌∙◌}
use Prim.Native.Nat.{ℕ, zero, suc}
use Rattle.trend.specs.Result.{Learnt, Nothing, Time, learnt_number}

learnt_of : ℕ → Learnt
learnt_of zero = Nothing
learnt_of (suc ms) = Time ms

learnt_back : (r : Learnt) → learnt_of (learnt_number r) ≡ r
unfolding learnt_of
learnt_back Nothing = refl
learnt_back (Time ms) = refl

pub learnt_one : (r s : Learnt) → learnt_number r ≡ learnt_number s → r ≡ s
learnt_one r s h = sym (learnt_back r) ∙ ap learnt_of h ∙ learnt_back s
