use mathlib.Core.Path.{ap}
use native.Mathlib.Omega.{arith}
use Rattle.targets.specs.declared.Target.{Target}
use Rattle.targets.specs.Targets.{most}
use Rattle.bits.proofs.UpTo.{fill}
use Rattle.prediction.proofs.list_targets.Goals as goal

pub loop-k-preserved : goal.loop-k-preserved
loop-k-preserved c =
    let k = c.loop-k.k in (
      c.loop-k.invariant.0,
      fill _ 0 most k (omega arith) _ _ c.loop-k.invariant.1 (ap (λ (g : Target). g.location) c.target_at-target.ensures),
      fill _ 0 most k (omega arith) _ _ c.loop-k.invariant.2 (ap (λ (g : Target). g.speed) c.target_at-target.ensures),
    )
