-- Whether a walk stays at or below the limit, and what it answers, at one step: at its end, above the limit, at the cut, or as it goes on.
-- Assumes nothing.
use mathlib.Core.Path.{◌≡◌}
use mathlib.Core.Bool.{true, false}
use Prim.Native.Nat.{ℕ, zero, suc, ◌≤◌, ◌<◌}
use native.Mathlib.Omega.{arith}
use lib.Dec.{leb}
use borrow.Author.Tests.{le-leb, lt-leb}
use Rattle.consist.specs.declared.Consist.{Consist}
use Rattle.step.specs.declared.Run.{Run}
use Rattle.step.specs.Step.{Ground, step_of}
use Rattle.walk.specs.Walk.{at, never, stays, walk_to}

module _ (c : Consist) (force : ℕ → ℕ) (ground : Ground) (limit : ℕ) (r : Run) where
  moving : 0 < r.q → leb r.q 0 ≡ false
  moving h = lt-leb r.q 0 h

  ended : r.q ≡ 0 → leb r.q 0 ≡ true
  ended e = le-leb r.q 0 (omega arith)

  pub stays_cut : 0 < r.q → stays c force ground limit 0 r ≡ false
  unfolding stays
  stays_cut h = moving h

  pub stays_ended : (n : ℕ) → r.q ≡ 0 → stays c force ground limit n r ≡ true
  unfolding stays
  stays_ended zero e = ended e
  stays_ended (suc n) e = rw (ended e)

  pub stays_above : (n : ℕ) → limit < r.q → stays c force ground limit n r ≡ false
  unfolding stays
  stays_above zero h = moving (omega arith)
  stays_above (suc n) h = rw (moving (omega arith), lt-leb r.q limit h)

  pub stays_on : (n : ℕ) → 0 < r.q → r.q ≤ limit → stays c force ground limit (suc n) r ≡ stays c force ground limit n (step_of c force ground r)
  unfolding stays
  stays_on n h k = rw (moving h, le-leb r.q limit k)

  pub walk_at : (n : ℕ) → stays c force ground limit n r ≡ true → walk_to c force ground limit n r ≡ at r.head
  unfolding walk_to
  walk_at zero e = rw e
  walk_at (suc n) e = rw e

  pub walk_cut : 0 < r.q → walk_to c force ground limit 0 r ≡ never
  unfolding walk_to
  walk_cut h = rw (stays_cut h)

  pub walk_on : (n : ℕ) → stays c force ground limit (suc n) r ≡ false
      → walk_to c force ground limit (suc n) r ≡ walk_to c force ground limit n (step_of c force ground r)
  unfolding walk_to
  walk_on n e = rw e
