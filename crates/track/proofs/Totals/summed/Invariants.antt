-- The sums are the totals of the first k segments, and k + 1 places of each array are filled.
use mathlib.Core.Path.{◌≡◌}
use Prim.Native.Nat.{◌+◌}
use lib.IntN.{pos}
use Rattle.profile.specs.Profile.{most}
use Rattle.bits.proofs.UpTo.{filled}
use Rattle.track.specs.Totals.{grade_total, curvature_total}
use Rattle.track.specs.Steps.{Sized, total_of}
use Rattle.track.proofs.Totals.summed.Given as goal

abbrev pub invariant-loop-k : goal.invariant-loop-k
invariant-loop-k l =
    (l.sums ≡ total_of l.track l.k)
    × Sized l.k l.sums
    × (l.totals.grades ≡ filled (grade_total l.track) (pos 0) most (l.k + 1))
    × (l.totals.curvatures ≡ filled (curvature_total l.track) 0 most (l.k + 1))
