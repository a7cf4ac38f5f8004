-- What a walk may count on in the track of an accepted profile, and the averages' bounds. proofs/Accepted.antt shows that it holds,
-- proofs/Gentle.antt the bounds.
use Rattle.std.specs.Prelude.{ℕ, ◌≤◌, nat_abs}
use Rattle.track.specs.declared.Track.{Track}
use Rattle.track.specs.Track.{at, grade_under, curvature_under}
use Rattle.track.specs.Rising.{Rising}

-- "grade (-500 to 500), curvature (0 to 2,000)"; "Starts strictly rise"
pub record Gentle (t : Track) : Type 0 where
  pub grade : (k : ℕ) → nat_abs (at t k).grade ≤ 500
  pub curvature : (k : ℕ) → (at t k).curvature ≤ 2000
  pub rising : Rising t

-- an average is no steeper and no sharper than a segment may be; 500 hundredths are 50,000 ten-thousandths
pub record Averaged (t : Track) (head length : ℕ) : Type 0 where
  pub grade : nat_abs (grade_under t head length) ≤ 50000
  pub curvature : curvature_under t head length ≤ 2000

unfoldable pub GentleAverages : Type 0
GentleAverages = (t : Track) (head length : ℕ) → Gentle t → Averaged t head length
