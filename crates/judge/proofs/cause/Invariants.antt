-- The cause is the first from k on.
use mathlib.Core.Path.{◌≡◌}
use Prim.Native.Nat.{◌-◌}
use Rattle.judge.specs.Judge.{calls, first_from, cause_of}
use Rattle.judge.proofs.cause.Given as goal

abbrev pub invariant-loop-k : goal.invariant-loop-k
invariant-loop-k l =
    cause_of l.offset l.head l.speed l.targets.count l.targets.locations l.targets.speeds l.arrivals
    ≡ first_from (calls l.offset l.head l.speed l.targets.locations l.targets.speeds l.arrivals) l.k (l.k-end - l.k)
