-- The arrivals before i are marked, the others are as they were.
use mathlib.Core.Path.{◌≡◌}
use Prim.Native.Nat.{ℕ, ◌<◌, ◌≤◌}
use lib.ListN.{length, get_or}
use Rattle.targets.specs.Targets.{most}
use Rattle.walk.specs.Marks.{mark_of}
use Rattle.walk.proofs.mark_all.Given as goal

abbrev pub invariant-loop-i : goal.invariant-loop-i
invariant-loop-i l =
    (length l.arrivals ≡ most)
    × ((k : ℕ) → k < l.i → get_or l.arrivals k 0 ≡ mark_of l.run (get_or l.speeds k 0) (get_or l.fn.arrivals k 0))
    × ((k : ℕ) → l.i ≤ k → get_or l.arrivals k 0 ≡ get_or l.fn.arrivals k 0)
