-- Figures of the targets, as one statement. Its proof is `figures` of proofs/Figures.antt.
use Rattle.std.specs.Prelude.{◌≡◌, ℕ, List, [], ◌∷◌, ◌++◌, length}
use Rattle.refusal.specs.Verdict.{Accepted}
use Rattle.targets.specs.Targets.{broken, judge_targets, target_of, bytes_of}

-- the bytes of one target, and of several at speed 0
abbrev pub one : ℕ → ℕ → List ℕ
one location speed = bytes_of 1 (target_of (location ∷ []) (speed ∷ []))

abbrev pub stops : List ℕ → List ℕ
stops locations = bytes_of (length locations) (target_of locations [])

pub record Figures : Type 0 where
  -- none at all is right
  pub none : judge_targets [] ≡ (Accepted, 0)
  -- the target of 01's case
  pub bytes : one 5531 0 ≡ 0 ∷ 21 ∷ 155 ∷ 0 ∷ 0 ∷ []
  pub accepted : judge_targets (one 5531 0) ≡ (Accepted, 1)
  pub fastest : judge_targets (one 5531 10000) ≡ (Accepted, 1)
  pub too_fast : judge_targets (one 5531 10001) ≡ broken
  pub farthest : judge_targets (one 4000000 0) ≡ (Accepted, 1)
  pub too_far : judge_targets (one 4000001 0) ≡ broken
  pub rising : judge_targets (stops (5531 ∷ 5532 ∷ [])) ≡ (Accepted, 2)
  pub equal : judge_targets (stops (5531 ∷ 5531 ∷ [])) ≡ broken
  pub eight : judge_targets (stops (1 ∷ 2 ∷ 3 ∷ 4 ∷ 5 ∷ 6 ∷ 7 ∷ 8 ∷ [])) ≡ (Accepted, 8)
  pub nine : judge_targets (stops (1 ∷ 2 ∷ 3 ∷ 4 ∷ 5 ∷ 6 ∷ 7 ∷ 8 ∷ 9 ∷ [])) ≡ broken
  pub six_bytes : judge_targets (one 5531 0 ++ 0 ∷ []) ≡ broken
