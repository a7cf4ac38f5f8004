use mathlib.Core.Path.{sym, ap, ◌∙◌}
use Prim.Native.Nat.{ℕ}
use native.Mathlib.Omega.{arith}
use Rattle.judge.specs.Judge.{emergency_calls, first_from, emergency_cause_of}
use Rattle.judge.proofs.Causes.{found, not_here, none_left}
use Rattle.judge.proofs.emergency_cause.Goals as goal

pub loop-i-init : goal.loop-i-init
unfolding emergency_cause_of
loop-i-init c =
    let t = c.args.targets.now in
    ap (λ (m : ℕ). first_from (emergency_calls c.args.head t.locations t.speeds c.args.stop) 0 m) (omega (arith, c.min-i-end.ensures))

pub returns-then-is_emergency_called : goal.returns-then-is_emergency_called
returns-then-is_emergency_called c =
    let i = c.loop-i.i in
    sym (c.loop-i.invariant ∙ found _ i _ (omega arith) c.is_emergency_called.ensures c.if-is_emergency_called.true)

pub loop-i-preserved : goal.loop-i-preserved
loop-i-preserved c = c.loop-i.invariant ∙ not_here _ c.loop-i.i _ (omega arith) c.is_emergency_called.ensures c.if-is_emergency_called.false

pub returns : goal.returns
returns c = sym (c.loop-i.invariant ∙ none_left _ c.loop-i.i _ (omega arith))
