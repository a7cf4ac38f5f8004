-- After each step, what is found at an arrival or the rest of the walk is what the whole walk finds.
use Prim.Native.Nat.{◌-◌}
use Rattle.step.specs.Curve.{force_at}
use Rattle.step.specs.Step.{steps_most, ground_of}
use Rattle.walk.specs.Marks.{Quiet}
use Rattle.walk.proofs.Arrivals.{Walked}
use Rattle.walk.proofs.predict.Given as goal

abbrev pub invariant-loop-band : goal.invariant-loop-band
invariant-loop-band l =
    Walked l.c (force_at l.c.rated l.curve) (ground_of l.route.track.now l.c) l.head l.speed l.speeds l.n l.run l.arrivals
    × Quiet l.speeds l.arrivals l.band

abbrev pub decreases-loop-band : goal.decreases-loop-band
decreases-loop-band l = steps_most - l.n
