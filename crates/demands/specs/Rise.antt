-- Trains that speed up again, by document 02's R-2, as one statement. Its proof is `rise_figures` of proofs/Rise.antt.
use Rattle.std.specs.Prelude.{◌≡◌, Bool, true, false, [], ◌∷◌, ℕ, pos, negsuc}
use Rattle.blocks.specs.Blocks.{none}
use Rattle.consist.specs.declared.Consist.{Consist}
use Rattle.track.specs.declared.Track.{Track}
use Rattle.walk.specs.Walk.{at, never, location_of}
use Rattle.judge.specs.Judge.{is_called}
use Rattle.judge.specs.Approach.{Approach, arrival_of}
use Rattle.demands.specs.Eleven.{crossing_of}

-- the train of document 01's case, but for its rated brake force
abbrev pub train : (rated : ℕ) → Consist
train rated = record {
  cars = 10;
  axles = 40;
  weight = 1000;
  length = 600;
  rated = rated;
  application = 30000;
  recharge = 50;
  set = 9000;
  offset = 500;
  blocks = none;
}

-- level, up 1.5% from 5,200, down 2% from 6,000, level from 7,200, up 2% from 8,000; -200 is `negsuc 199`
abbrev pub rolling : Track
rolling = record {
  count = 6;
  starts = 0 ∷ 5200 ∷ 6000 ∷ 7200 ∷ 8000 ∷ 60000 ∷ [];
  grades = pos 0 ∷ pos 150 ∷ negsuc 199 ∷ pos 0 ∷ pos 200 ∷ pos 0 ∷ [];
  curvatures = 0 ∷ 0 ∷ 0 ∷ 0 ∷ 0 ∷ 0 ∷ [];
}

abbrev pub level : Track
level = record { count = 2; starts = 0 ∷ 60000 ∷ []; grades = pos 0 ∷ pos 0 ∷ []; curvatures = 0 ∷ 0 ∷ [] }

-- charged brakes
abbrev pub approach : (rated : ℕ) → Track → (head speed : ℕ) → Approach
approach rated t head speed = record { consist = train rated; a = 9000; b = 0; track = t; head = head; speed = speed }

-- over the rolling country, with weak brakes
abbrev pub weak : (head speed : ℕ) → Approach
weak = approach 20000 rolling

abbrev pub unbraked : (head speed : ℕ) → Approach
unbraked = approach 0 level

-- whether the penalty is called for a target
abbrev pub called : Approach → (target u : ℕ) → Bool
called x target u = is_called x.consist.offset x.head x.speed target u (location_of (arrival_of x u))

pub record RiseFigures : Type 0 where
  -- 25 mph before a target of 15 mph at 8,136: below it on the way up, above it on the way down, and then below it for good
  pub dips : crossing_of (weak 5000 2500) 1500 ≡ at 6024
  pub settles : arrival_of (weak 5000 2500) 1500 ≡ at 7816
  pub stops : arrival_of (weak 5000 2500) 0 ≡ at 8344
  -- the offset is 320: none at equality, and a foot further it is called
  pub equal : called (weak 5000 2500) 8136 1500 ≡ false
  pub a_foot_further : called (weak 5001 2500) 8136 1500 ≡ true
  -- 8 mph on the way down, below three targets' speeds: nowhere above 19 mph, past 16 and 12
  pub nowhere_above : arrival_of (weak 6400 800) 1900 ≡ at 6400
  pub below_at_first : crossing_of (weak 6400 800) 1600 ≡ at 6400
  pub rises : arrival_of (weak 6400 800) 1600 ≡ at 7952
  pub first_not_called : called (weak 6400 800) 6900 1900 ≡ false
  pub second_called : called (weak 6400 800) 7000 1600 ≡ true
  -- unbraked at 50 mph: after 2,048 steps at some 32 mph, below 45
  pub crossed : crossing_of (unbraked 5000 5000) 4500 ≡ at 14184
  pub no_stop : arrival_of (unbraked 5000 5000) 0 ≡ never
  pub cut : arrival_of (unbraked 5000 5000) 4500 ≡ never
  -- so a target of 90 mph is called for
  pub cut_called : called (unbraked 5000 5000) 20000 9000 ≡ true
  -- at rest
  pub at_rest : arrival_of (unbraked 5001 0) 9000 ≡ at 5001
