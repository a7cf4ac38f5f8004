-- Figures of the averages by weight, as one statement. Its proof is `figures` of proofs/Figures.antt.
use Rattle.std.specs.Prelude.{◌≡◌, [], ◌∷◌, ℕ, ℤ, pos, negsuc}
use Rattle.blocks.specs.declared.Blocks.{Blocks}
use Rattle.track.specs.declared.Track.{Track}
use Rattle.track.specs.declared.Under.{Under}
use Rattle.shares.specs.Shares.{ground_under}

abbrev pub none : Blocks
none = record { count = 0; lengths = []; weights = [] }

-- level, but for 1 ft of grade 1 under the rear half of a train of 300 ft with its head at 1,000, and 2 ft under its front half
abbrev pub ripple : Track
ripple = record {
  count = 6;
  starts = 0 ∷ 750 ∷ 751 ∷ 900 ∷ 902 ∷ 2000 ∷ [];
  grades = pos 0 ∷ pos 1 ∷ pos 0 ∷ pos 1 ∷ pos 0 ∷ pos 0 ∷ [];
  curvatures = 0 ∷ 1 ∷ 0 ∷ 1 ∷ 0 ∷ 0 ∷ [];
}

-- the same with -1, which is `negsuc 0`
abbrev pub dips : Track
dips = record {
  count = 6;
  starts = 0 ∷ 750 ∷ 751 ∷ 900 ∷ 902 ∷ 2000 ∷ [];
  grades = pos 0 ∷ negsuc 0 ∷ pos 0 ∷ negsuc 0 ∷ pos 0 ∷ pos 0 ∷ [];
  curvatures = 0 ∷ 0 ∷ 0 ∷ 0 ∷ 0 ∷ 0 ∷ [];
}

-- 300 ft and 1,000 tons, in two equal halves and in one block
abbrev pub halves : Blocks
halves = record { count = 2; lengths = 150 ∷ 150 ∷ []; weights = 500 ∷ 500 ∷ [] }

abbrev pub one : Blocks
one = record { count = 1; lengths = 300 ∷ []; weights = 1000 ∷ [] }

-- a sag: down 1 percent to 10,000, up 1 percent from there; -100 is `negsuc 99`
abbrev pub sag : Track
sag = record { count = 3; starts = 0 ∷ 10000 ∷ 60000 ∷ []; grades = negsuc 99 ∷ pos 100 ∷ pos 0 ∷ []; curvatures = 300 ∷ 100 ∷ 0 ∷ [] }

-- 6,000 ft and 6,000 tons: empties in front, loads behind
abbrev pub empties_first : Blocks
empties_first = record { count = 2; lengths = 3000 ∷ 3000 ∷ []; weights = 600 ∷ 5400 ∷ [] }

abbrev pub ground : ℤ → ℕ → Under
ground grade curvature = record { grade = grade; curvature = curvature }

pub record Figures : Type 0 where
  -- 666 and 333 of 1,000: each share is rounded by itself
  pub halves_up : ground_under ripple 1000 300 1000 halves ≡ ground (pos 0) 0
  pub one_up : ground_under ripple 1000 300 1000 one ≡ ground (pos 1) 0
  pub none_up : ground_under ripple 1000 300 1000 none ≡ ground (pos 1) 0
  -- -667 and -334
  pub halves_down : ground_under dips 1000 300 1000 halves ≡ ground (negsuc 1) 0
  pub one_down : ground_under dips 1000 300 1000 one ≡ ground (negsuc 0) 0
  pub none_down : ground_under dips 1000 300 1000 none ≡ ground (negsuc 0) 0
  -- the loads are still on the descent
  pub empties_first_lem : ground_under sag 13000 6000 6000 empties_first ≡ ground (negsuc 7999) 280
  pub evenly : ground_under sag 13000 6000 6000 none ≡ ground (pos 0) 200
  -- longer than where its head is: of the loads only 1,000 ft are on the track
  pub begins_at_0 : ground_under sag 4000 6000 6000 empties_first ≡ ground (negsuc 3999) 120
