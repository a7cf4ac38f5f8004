use mathlib.Core.Path.{sym, ap, ◌∙◌}
use Prim.Native.Nat.{ℕ}
use native.Mathlib.Omega.{arith}
use Rattle.judge.specs.Judge.{calls, first_from, cause_of}
use Rattle.judge.proofs.Causes.{found, not_here, none_left}
use Rattle.judge.proofs.cause.Goals as goal

pub loop-k-init : goal.loop-k-init
unfolding cause_of
loop-k-init c =
    let a = c.args in
    let t = a.targets.now in
    ap (λ (m : ℕ). first_from (calls a.offset a.head a.speed t.locations t.speeds a.arrivals) 0 m) (omega (arith, c.min-k-end.ensures))

pub returns-then-is_called : goal.returns-then-is_called
returns-then-is_called c = let k = c.loop-k.k in sym (c.loop-k.invariant ∙ found _ k _ (omega arith) c.is_called.ensures c.if-is_called.true)

pub loop-k-preserved : goal.loop-k-preserved
loop-k-preserved c = c.loop-k.invariant ∙ not_here _ c.loop-k.k _ (omega arith) c.is_called.ensures c.if-is_called.false

pub returns : goal.returns
returns c = sym (c.loop-k.invariant ∙ none_left _ c.loop-k.k _ (omega arith))
