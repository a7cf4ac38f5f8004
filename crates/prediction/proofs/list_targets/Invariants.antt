-- k places of each array are filled.
use mathlib.Core.Path.{◌≡◌}
use Rattle.targets.specs.Targets.{most, count, target_at}
use Rattle.bits.proofs.UpTo.{filled}
use Rattle.prediction.proofs.list_targets.Given as goal

abbrev pub invariant-loop-k : goal.invariant-loop-k
invariant-loop-k l =
    (l.listed.count ≡ count l.t)
    × (l.listed.locations ≡ filled (λ i. (target_at l.t i).location) 0 most l.k)
    × (l.listed.speeds ≡ filled (λ i. (target_at l.t i).speed) 0 most l.k)
