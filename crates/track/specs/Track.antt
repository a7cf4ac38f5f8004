-- "Train from head minus length to head. G and C are the sums of grade × feet and curvature × feet under the train, over its length, each down."
-- Document 02's R-11: "The average grade is to come back in ten-thousandths of a percent, still down". Definitions only.
use Rattle.std.specs.Prelude.{ℕ, zero, suc, ◌+◌, ◌-◌, ◌*◌, ◌/◌, min, max, List, ℤ, pos, ◌+ℤ◌, ◌*ℤ◌}
use Rattle.bits.specs.Tables.{up_to}
use Rattle.whole.specs.Floor.{floor_div}
use Rattle.profile.specs.declared.Segment.{Segment}
use Rattle.profile.specs.Profile.{most, count, segment_at, segment_of}
use Rattle.track.specs.declared.Track.{Track}
use Rattle.track.specs.declared.Under.{Under}

-- ---- a profile laid out

-- the profile that bytes are, of no more records than a profile may have
unfoldable pub lay_of : List ℕ → Track
lay_of p = record {
  count = min (count p) most;
  starts = up_to most (λ k. (segment_at p k).start);
  grades = up_to most (λ k. (segment_at p k).grade);
  curvatures = up_to most (λ k. (segment_at p k).curvature);
}

-- segment k
abbrev pub at : Track → ℕ → Segment
at t k = segment_of t.starts t.grades t.curvatures k

-- ---- under a train from `rear` to `head`

-- "A record holds up to the next start": the feet of segment k under the train
unfoldable pub feet : Track → ℕ → ℕ → ℕ → ℕ
feet t rear head k = min head (at t (k + 1)).start - max rear (at t k).start

-- the sum of grade × feet over the first n segments
unfoldable pub grade_feet : Track → ℕ → ℕ → ℕ → ℤ
grade_feet t rear head zero = pos 0
grade_feet t rear head (suc n) = grade_feet t rear head n +ℤ pos (feet t rear head n) *ℤ (at t n).grade

-- the sum of curvature × feet
unfoldable pub curvature_feet : Track → ℕ → ℕ → ℕ → ℕ
curvature_feet t rear head zero = 0
curvature_feet t rear head (suc n) = curvature_feet t rear head n + feet t rear head n * (at t n).curvature

-- "The last only ends the profile": one segment fewer than records, and of these no more than a profile may have
abbrev pub segments : Track → ℕ
segments t = min t.count most - 1

-- G: over its length, down; "in ten-thousandths of a percent", of a sum in hundredths
unfoldable pub grade_under : Track → ℕ → ℕ → ℤ
grade_under t head length = floor_div (pos 100 *ℤ grade_feet t (head - length) head (segments t)) (pos length)

-- C: over its length, down
unfoldable pub curvature_under : Track → ℕ → ℕ → ℕ
curvature_under t head length = curvature_feet t (head - length) head (segments t) / length

abbrev pub under_of : Track → ℕ → ℕ → Under
under_of t head length = record { grade = grade_under t head length; curvature = curvature_under t head length }
