-- k places of each array are filled.
use mathlib.Core.Path.{◌≡◌}
use Prim.Native.Nat.{min}
use lib.IntN.{pos}
use Rattle.profile.specs.Profile.{most, count}
use Rattle.bits.proofs.UpTo.{filled}
use Rattle.track.proofs.Lay.{start_at, grade_at, curvature_at}
use Rattle.track.proofs.Track.laid.Given as goal

abbrev pub invariant-loop-k : goal.invariant-loop-k
invariant-loop-k l =
    (l.track.count ≡ min (count l.p) most)
    × (l.track.starts ≡ filled (start_at l.p) 0 most l.k)
    × (l.track.grades ≡ filled (grade_at l.p) (pos 0) most l.k)
    × (l.track.curvatures ≡ filled (curvature_at l.p) 0 most l.k)
