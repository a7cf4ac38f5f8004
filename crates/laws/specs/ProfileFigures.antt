-- Figures of the profile, as one statement. Its proof is `figures` of proofs/ProfileFigures.antt.
use Rattle.std.specs.Prelude.{◌≡◌, ℕ, List, [], ◌∷◌, ◌++◌, take, ℤ, pos, negsuc}
use Rattle.refusal.specs.Verdict.{Accepted}
use Rattle.profile.specs.Grade.{grade_bits}
use Rattle.profile.specs.Profile.{segment_at, broken, judge_profile, segment_of, bytes_of}

-- the bytes of two records: the first has grade g, the last has grade h
abbrev pub two : ℕ → ℕ → ℤ → ℤ → List ℕ
two from to g h = bytes_of 2 (segment_of (from ∷ to ∷ []) (g ∷ h ∷ []) (0 ∷ 0 ∷ []))

-- the profile of 01's case: level, 0 to 40,000
abbrev pub level : List ℕ
level = two 0 40000 (pos 0) (pos 0)

pub record Figures : Type 0 where
  -- the eleven bits of -1 and of -500, and back
  pub minus_one : grade_bits (negsuc 0) ≡ 2047
  pub steepest : grade_bits (negsuc 499) ≡ 1548
  pub downhill : (segment_at (two 0 40000 (negsuc 499) (pos 0)) 0).grade ≡ negsuc 499
  pub bytes : level ≡ 0 ∷ 0 ∷ 0 ∷ 0 ∷ 0 ∷ 0 ∷ 0 ∷ 156 ∷ 64 ∷ 0 ∷ 0 ∷ 0 ∷ []
  pub accepted : judge_profile level ≡ (Accepted, 2)
  pub one_record : judge_profile (take 6 level) ≡ broken
  pub equal_starts : judge_profile (two 40000 40000 (pos 0) (pos 0)) ≡ broken
  pub too_steep : judge_profile (two 0 40000 (negsuc 500) (pos 0)) ≡ broken
  pub graded_end : judge_profile (two 0 40000 (pos 0) (pos 1)) ≡ broken
  pub spare_bit : judge_profile (0 ∷ 0 ∷ 0 ∷ 0 ∷ 0 ∷ 1 ∷ 0 ∷ 156 ∷ 64 ∷ 0 ∷ 0 ∷ 0 ∷ []) ≡ broken
  pub farthest : judge_profile (two 0 4000000 (pos 0) (pos 0)) ≡ (Accepted, 2)
  pub too_far : judge_profile (two 0 4000001 (pos 0) (pos 0)) ≡ broken
  pub no_bytes : judge_profile [] ≡ broken
  pub thirteen_bytes : judge_profile (level ++ 0 ∷ []) ≡ broken
