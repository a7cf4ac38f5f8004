-- With as many turns left as are not yet done. Assumes nothing.
use Prim.Native.Nat.{◌-◌}
use Rattle.whole.specs.LongHand.{Underway}
use Rattle.whole.proofs.isqrt.Given as goal

abbrev pub invariant-loop-done : goal.invariant-loop-done
invariant-loop-done l = Underway l.q (l.turns - l.done) l.ahead l.so_far
