-- How far a walk reaches: no further than its steps go. Assumes nothing.
use mathlib.Core.Bool.{Bool, true, false}
use Prim.Native.Nat.{ℕ, zero, suc, ◌+◌, ◌*◌, ◌≤◌}
use native.Mathlib.Omega.{arith}
use Rattle.consist.specs.declared.Consist.{Consist}
use Rattle.step.specs.declared.Run.{Run}
use Rattle.step.specs.Step.{steps_most, Ground, step_of}
use Rattle.walk.specs.Walk.{reach, Arrival, at, never, arrival_by, stays, walk_to, start, arrival_for}

-- a location, where there is one, is at most m
abbrev pub NoFurther : ℕ → Arrival → Type 0
NoFurther m (at h) = h ≤ m
NoFurther m never = Unit {0}

pub verdict_no_further : (m h : ℕ) (b : Bool) (rest : Arrival) → h ≤ m → NoFurther m rest → NoFurther m (arrival_by b h rest)
verdict_no_further m h true rest l r = l
verdict_no_further m h false rest l r = r

module _ (c : Consist) (force : ℕ → ℕ) (ground : Ground) where
  walk_no_further : (limit m n : ℕ) (r : Run) → r.head + 16 * n ≤ m → NoFurther m (walk_to c force ground limit n r)
  unfolding walk_to step_of
  walk_no_further limit m zero r h = verdict_no_further m r.head (stays c force ground limit zero r) never (omega arith) tt
  walk_no_further limit m (suc n) r h =
      verdict_no_further m r.head (stays c force ground limit (suc n) r) _ (omega arith) (walk_no_further limit m n (step_of c force ground r) (omega arith))

  pub arrival_no_further : (head v u m : ℕ) → head + reach ≤ m → NoFurther m (arrival_for c force ground head v u)
  unfolding arrival_for
  arrival_no_further head v u m h = walk_no_further (u * u) m steps_most (start head v) h
