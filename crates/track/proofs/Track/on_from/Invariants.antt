-- Among the records up to k, k holds at the location.
use mathlib.Core.Path.{◌≡◌}
use Prim.Native.Nat.{◌≤◌}
use Rattle.track.specs.Totals.{holding_to}
use Rattle.track.proofs.Track.on_from.Given as goal

abbrev pub invariant-loop-k : goal.invariant-loop-k
invariant-loop-k l = (l.k ≤ l.last) × (holding_to l.self.starts l.location l.k ≡ l.k)
