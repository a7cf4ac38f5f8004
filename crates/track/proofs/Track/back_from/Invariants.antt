-- Among the records up to k there holds at the location what holds among all.
use mathlib.Core.Path.{◌≡◌}
use Prim.Native.Nat.{◌≤◌}
use Rattle.track.specs.Totals.{holding_to}
use Rattle.track.proofs.Track.back_from.Given as goal

abbrev pub invariant-loop-k : goal.invariant-loop-k
invariant-loop-k l = (l.k ≤ l.from) × (holding_to l.self.starts l.location l.k ≡ holding_to l.self.starts l.location l.from)
