use Prim.Native.Nat.{ℕ, ◌*◌, ◌<◌}
use lib.ListN.{get_or, length}
use Rattle.walk.specs.Marks.{Kept}
use Rattle.walk.proofs.quiet_band.Given as goal

abbrev pub invariant-loop-arrival : goal.invariant-loop-arrival
invariant-loop-arrival l =
    (goal.iterator-loop-arrival).can_next l.arrival-iterator × (goal.iterator-loop-arrival).is_finite l.arrival-iterator
    × ((k : ℕ) → k < length l.yielded → Kept l.band (get_or l.fn.speeds k 0 * get_or l.fn.speeds k 0) (get_or l.fn.arrivals k 0))
