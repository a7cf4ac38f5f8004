-- What blocks leave as it was: one block answers as none, and no average is steeper or sharper than a segment may be. Statements; proofs/One.antt and
-- proofs/Bounds.antt prove them.
use Rattle.std.specs.Prelude.{◌≡◌, ℕ, ◌*◌, ◌≤◌, nat_abs}
use Rattle.blocks.specs.declared.Blocks.{Blocks}
use Rattle.blocks.specs.Blocks.{weight_of}
use Rattle.blocks.specs.Sound.{Sound}
use Rattle.track.specs.declared.Track.{Track}
use Rattle.track.specs.Track.{under_of}
use Rattle.track.specs.Gentle.{Gentle}
use Rattle.shares.specs.Shares.{grade_share, curvature_share, ground_under}

-- "One block must answer as today", over any track, whatever the sign of its grades
unfoldable pub OneAsNone : Type 0
OneAsNone =
    (t : Track) (head length weight : ℕ) (b : Blocks) → Sound b length weight → b.count ≡ 1 →
    ground_under t head length weight b ≡ under_of t head length

-- a share is no more than what its weight has on the steepest and on the sharpest segment; 500 hundredths are 50,000 ten-thousandths
pub record Shared (t : Track) (head : ℕ) (b : Blocks) : Type 0 where
  pub grade : (k : ℕ) → nat_abs (grade_share t head b k) ≤ 50000 * weight_of b k
  pub curvature : (k : ℕ) → curvature_share t head b k ≤ 2000 * weight_of b k

unfoldable pub GentleShares : Type 0
GentleShares = (t : Track) (head : ℕ) (b : Blocks) → Gentle t → Shared t head b

-- so an average by weight is no steeper and no sharper than a segment may be
pub record Averaged (t : Track) (head length weight : ℕ) (b : Blocks) : Type 0 where
  pub grade : nat_abs (ground_under t head length weight b).grade ≤ 50000
  pub curvature : (ground_under t head length weight b).curvature ≤ 2000

unfoldable pub GentleGround : Type 0
GentleGround = (t : Track) (head length weight : ℕ) (b : Blocks) → Gentle t → Sound b length weight → Averaged t head length weight b
