-- "Keep running totals of grade × feet and curvature × feet beside the profile and take an average as a difference of two totals."
-- Definitions, and the statement that the differences are the scanned sums, which proofs/Differences.antt proves.
use Rattle.std.specs.Prelude.{◌≡◌, List, ◌++◌, cond, ℕ, zero, suc, ◌+◌, ◌-◌, ◌*◌, ◌≤◌, min, leb, get_or, replicate, ℤ, pos, nat_abs, ◌+ℤ◌, ◌-ℤ◌, ◌*ℤ◌}
use Rattle.bits.specs.Tables.{up_to}
use Rattle.profile.specs.Profile.{most}
use Rattle.track.specs.declared.Track.{Track}
use Rattle.track.specs.declared.Totals.{Totals}
use Rattle.track.specs.declared.Found.{Found}
use Rattle.track.specs.Track.{at, segments, grade_feet, curvature_feet, under_of}
use Rattle.track.specs.Rising.{Rising}

-- ---- kept with the profile

-- all feet of segment k
unfoldable pub all_feet : Track → ℕ → ℕ
all_feet t k = (at t (k + 1)).start - (at t k).start

-- the sum of grade × feet over the first k segments
unfoldable pub grade_total : Track → ℕ → ℤ
grade_total t zero = pos 0
grade_total t (suc k) = grade_total t k +ℤ pos (all_feet t k) *ℤ (at t k).grade

-- the sum of curvature × feet
unfoldable pub curvature_total : Track → ℕ → ℕ
curvature_total t zero = 0
curvature_total t (suc k) = curvature_total t k + all_feet t k * (at t k).curvature

-- totals in their places, the first that of no segment, the last that of all; past it, nothing
abbrev pub placed : {A : Type 0} → Track → (total : ℕ → A) → (nothing : A) → List A
placed t total nothing = up_to (segments t + 1) total ++ replicate (most - (segments t + 1)) nothing

unfoldable pub totals_of : Track → Totals
totals_of t = record { grades = placed t (grade_total t) (pos 0); curvatures = placed t (curvature_total t) 0 }

-- these are a track's totals
abbrev pub AreTotals : Track → Totals → Type 0
AreTotals t totals = totals ≡ totals_of t

-- ---- at a location

-- "A record holds up to the next start": which of the records 0 to n holds at x; before the first start, the first
unfoldable pub holding_to : (starts : List ℕ) (x n : ℕ) → ℕ
holding_to starts x zero = zero
holding_to starts x (suc n) = cond (leb (get_or starts (suc n) 0) x) (suc n) (holding_to starts x n)

-- the segment of x; past the last start, the record that only ends the profile
abbrev pub holding : Track → ℕ → ℕ
holding t x = holding_to t.starts x (segments t)

-- the feet from the start of segment k to x, or to the profile's end where x is past it
abbrev pub feet_to : Track → (x k : ℕ) → ℕ
feet_to t x k = min x (at t (segments t)).start - (at t k).start

-- "total k + grade k × (x − start k) in the segment of x"
unfoldable pub grade_to : Track → ℕ → ℤ
grade_to t x = let k = holding t x in grade_total t k +ℤ pos (feet_to t x k) *ℤ (at t k).grade

unfoldable pub curvature_to : Track → ℕ → ℕ
curvature_to t x = let k = holding t x in curvature_total t k + feet_to t x k * (at t k).curvature

-- G and C under a train, and the segments that its head and its rear are in
abbrev pub found_of : Track → (head length : ℕ) → Found
found_of t head length = record { under = under_of t head length; head_in = holding t head; rear_in = holding t (head - length) }

-- ---- the scanned sums are differences of two totals

pub record Differences (t : Track) (rear head : ℕ) : Type 0 where
  pub grade : grade_feet t rear head (segments t) ≡ grade_to t head -ℤ grade_to t rear
  pub curvature : curvature_feet t rear head (segments t) ≡ curvature_to t head - curvature_to t rear
  pub rises : curvature_to t rear ≤ curvature_to t head

-- wherever rear and head are: at a segment's end, inside one, before the first start, past the last
unfoldable pub Totalled : Type 0
Totalled = (t : Track) (rear head : ℕ) → Rising t → rear ≤ head → Differences t rear head

-- ---- how large the totals of an accepted profile are

pub record Small (t : Track) : Type 0 where
  pub grade : (k : ℕ) → k ≤ segments t → nat_abs (grade_total t k) ≤ 2000000000
  pub curvature : (k : ℕ) → k ≤ segments t → curvature_total t k ≤ 8000000000
