-- What a caller may count on in a profile that is accepted: `judged_sound` of proofs/Sound.antt.
use Rattle.std.specs.Prelude.{◌≡◌, ℕ, ◌-◌, ◌≤◌, ◌<◌, pos, nat_abs}
use Rattle.record.specs.Location.{farthest}
use Rattle.profile.specs.declared.Segment.{Segment}
use Rattle.profile.specs.Profile as profile

-- a segment in range
pub record Ranged (g : Segment) : Type 0 where
  pub grade : nat_abs g.grade ≤ profile.steepest
  pub curvature : g.curvature ≤ profile.sharpest
  pub start : g.start ≤ farthest

-- n records
pub record Sound (n : ℕ) (f : ℕ → Segment) : Type 0 where
  pub fewest : profile.fewest ≤ n
  pub most : n ≤ profile.most
  pub each : (k : ℕ) → k < n → Ranged (f k)
  pub rising : (k m : ℕ) → k < m → m < n → (f k).start < (f m).start
  pub last_grade : (f (n - 1)).grade ≡ pos 0
  pub last_curvature : (f (n - 1)).curvature ≡ 0
