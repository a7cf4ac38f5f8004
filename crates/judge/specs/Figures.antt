-- Boundaries of the judgement, as one statement. Its proof is `figures` of proofs/Figures.antt.
use Rattle.std.specs.Prelude.{◌≡◌, Bool, true, false, List, [], ◌∷◌, map, ℕ, length}
use Rattle.walk.specs.Walk.{never, location_of}
use Rattle.judge.specs.Judge.{is_judged, is_called, cause_of, emergency_cause_of}

-- the train of 01's case: offset 500, head 5,000, 1.0 mph, stopping at 5,032; before targets of speed 0
abbrev pub called_for : ℕ → ℕ → Bool
called_for target arrival = is_called 500 5000 100 target 0 arrival

abbrev pub cause_among : List ℕ → ℕ
cause_among targets = cause_of 500 5000 100 (length targets) targets (map (λ t. 0) targets) (map (λ t. 5032) targets)

-- an emergency's stop before four targets, the second with a speed of 20 mph
abbrev pub called_before : (head stop : ℕ) → ℕ
called_before head stop = emergency_cause_of head 4 (4000 ∷ 7600 ∷ 8000 ∷ 8001 ∷ []) (0 ∷ 2000 ∷ 0 ∷ 0 ∷ []) stop

pub record Figures : Type 0 where
  -- "from head to head plus 32,768, both included"
  pub behind : is_judged 5000 4999 ≡ false
  pub nearest : is_judged 5000 5000 ≡ true
  pub farthest : is_judged 5000 37768 ≡ true
  pub beyond : is_judged 5000 37769 ≡ false
  -- "one target 5,531"; "With the target at 5,532 no penalty is called": none at equality
  pub short_of_it : called_for 5531 5032 ≡ true
  pub equal : called_for 5532 5032 ≡ false
  -- no location, though the target is as far as any that is judged
  pub no_location : called_for 37768 (location_of never) ≡ true
  -- the first of two that call; unjudged targets are counted
  pub first : cause_among (5400 ∷ 5531 ∷ []) ≡ 1
  pub counted : cause_among (4000 ∷ 4999 ∷ 5531 ∷ []) ≡ 3
  pub none : cause_among (4999 ∷ 5532 ∷ []) ≡ 0
  -- "at or past a judged target of speed 0": the first is behind, the second has a speed
  pub emergency_short : called_before 7263 7999 ≡ 0
  pub emergency_at : called_before 7264 8000 ≡ 3
  pub emergency_past : called_before 7264 8016 ≡ 3
  pub emergency_beyond : called_before 7264 (location_of never) ≡ 3
  -- at rest on its target
  pub emergency_on : called_before 8001 8001 ≡ 4
