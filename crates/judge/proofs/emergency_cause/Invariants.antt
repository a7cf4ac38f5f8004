-- The cause is the first from i on.
use mathlib.Core.Path.{◌≡◌}
use Prim.Native.Nat.{◌-◌}
use Rattle.judge.specs.Judge.{emergency_calls, first_from, emergency_cause_of}
use Rattle.judge.proofs.emergency_cause.Given as goal

abbrev pub invariant-loop-i : goal.invariant-loop-i
invariant-loop-i l =
    emergency_cause_of l.head l.targets.count l.targets.locations l.targets.speeds l.stop
    ≡ first_from (emergency_calls l.head l.targets.locations l.targets.speeds l.stop) l.i (l.i-end - l.i)
