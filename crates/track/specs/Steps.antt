-- What the steps on the way to the averages find and ask. Definitions only.
use Rattle.std.specs.Prelude.{◌≡◌, List, ℕ, ◌+◌, ◌-◌, ◌*◌, ◌/◌, ◌≤◌, ◌<◌, ◌^◌, min, get_or, ℤ, pos, nat_abs, ◌+ℤ◌, ◌-ℤ◌, ◌*ℤ◌}
use Rattle.whole.specs.Floor.{floor_div}
use Rattle.profile.specs.Profile.{most}
use Rattle.track.specs.declared.Track.{Track}
use Rattle.track.specs.declared.Under.{Under}
use Rattle.track.specs.declared.Sums.{Sums}
use Rattle.track.specs.declared.Place.{Place}
use Rattle.track.specs.declared.Reached.{Reached}
use Rattle.track.specs.Totals.{grade_total, curvature_total, holding_to, holding, grade_to, curvature_to}

-- the size of the sums of n segments: one has under 2 ^ 32 feet, a grade of at most 2 ^ 15 in size and a curvature under 2 ^ 16
pub record Sized (n : ℕ) (s : Sums) : Type 0 where
  pub grade : nat_abs s.grade ≤ n * 2 ^ 47
  pub curvature : s.curvature ≤ n * 2 ^ 48

-- some feet more
abbrev pub plus_of : Sums → ℕ → ℤ → ℕ → Sums
plus_of s f grade curvature = record { grade = s.grade +ℤ pos f *ℤ grade; curvature = s.curvature + f * curvature }

pub record Plus (s : Sums) (f : ℕ) (grade : ℤ) (curvature : ℕ) (r : Sums) : Type 0 where
  pub sum : r ≡ plus_of s f grade curvature
  pub sized : (n : ℕ) → Sized n s → Sized (n + 1) r

-- what stands in place k of two lists of totals
abbrev pub kept_in : List ℤ → List ℕ → ℕ → Sums
kept_in grades curvatures k = record { grade = get_or grades k (pos 0); curvature = get_or curvatures k 0 }

-- both totals of the first k segments
abbrev pub total_of : Track → ℕ → Sums
total_of t k = record { grade = grade_total t k; curvature = curvature_total t k }

-- starts that do not fall, up to record `last`
pub record Rises (starts : List ℕ) (last : ℕ) : Type 0 where
  pub few : last < most
  pub each : (k : ℕ) → k < last → get_or starts k 0 ≤ get_or starts (k + 1) 0

-- and one of these records that holds at x among those up to it
pub record From (starts : List ℕ) (last x from : ℕ) : Type 0 where
  pub rises : Rises starts last
  pub among : from ≤ last
  pub holds : holding_to starts x from ≡ from

-- the segment of x, and the feet from its start
abbrev pub place_of : (starts : List ℕ) (last x : ℕ) → Place
place_of starts last x = record { segment = holding_to starts x last; feet = min x (get_or starts last 0) - get_or starts (holding_to starts x last) 0 }

-- both totals at x, and its segment
abbrev pub reached_of : Track → ℕ → Reached
reached_of t x = record { sums = record { grade = grade_to t x; curvature = curvature_to t x }; segment = holding t x }

-- the totals at a head and at a rear behind it
pub record Behind (rear head : Sums) : Type 0 where
  pub sized_rear : Sized (most + 1) rear
  pub sized_head : Sized (most + 1) head
  pub rises : rear.curvature ≤ head.curvature

-- the most that the sum of grades can gain from one to the other
abbrev pub difference_most : ℕ
difference_most = 2 * ((most + 1) * 2 ^ 47)

-- their differences over a length, each down; a grade in hundredths of the sum's unit
abbrev pub averages_of : (rear head : Sums) (length : ℕ) → Under
averages_of rear head length = record {
  grade = floor_div (pos 100 *ℤ (head.grade -ℤ rear.grade)) (pos length);
  curvature = (head.curvature - rear.curvature) / length;
}
