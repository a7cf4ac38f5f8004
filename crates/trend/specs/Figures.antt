-- Worked lines and results, as one statement. Its proof is `figures` of proofs/Figures.antt.
use Rattle.std.specs.Prelude.{◌≡◌, true, false, List, [], ◌∷◌, ℕ}
use Rattle.trend.specs.Result.{Nothing, Time}
use Rattle.trend.specs.Points.{Point, sums_of, no_sums}
use Rattle.trend.specs.Line.{levels_off}
use Rattle.trend.specs.Result.{result_of}

abbrev pub at : ℕ → ℕ → Point
at t p = record { t = t; p = p }

-- a second apart, the latest first
abbrev pub five : List Point
five = at 4 8380 ∷ at 3 8460 ∷ at 2 8540 ∷ at 1 8620 ∷ at 0 8700 ∷ []

abbrev pub three : List Point
three = at 2 8500 ∷ at 1 8600 ∷ at 0 8700 ∷ []

abbrev pub below : List Point
below = at 3 6100 ∷ at 2 6200 ∷ at 1 6300 ∷ at 0 6400 ∷ []

pub record Figures : Type 0 where
  -- 80 and then 20 hundredths a second: it waits at the fifth point and ends at the sixth, with the line over the five before it
  pub waits : levels_off 80 1 (sums_of five) ≡ false
  pub ends : levels_off 20 1 (sums_of (at 5 8360 ∷ five)) ≡ true
  pub five_points : result_of 10 6428 8360 (sums_of five) ≡ Time 34344
  pub three_points : result_of 10 6428 8490 (sums_of three) ≡ Time 30040
  -- from below equalization: X is below 0
  pub below_equalization : result_of 3 6428 6095 (sums_of below) ≡ Time 3720
  -- exactly one half waits, and less than one half ends: the line of (0, 4), (2, 0) falls by 2 a second
  pub half : levels_off 1 1 (sums_of (at 2 0 ∷ at 0 4 ∷ [])) ≡ false
  pub less_than_half : levels_off 1 2 (sums_of (at 2 0 ∷ at 0 4 ∷ [])) ≡ true
  -- no line, no result
  pub no_line : result_of 10 6428 8360 no_sums ≡ Nothing
  -- both ends of the range: of a line at equalization at its start, and of one that hardly falls
  pub least : result_of 0 8700 8000 (sums_of (at 1 8000 ∷ at 0 8700 ∷ [])) ≡ Time 1000
  pub greatest : result_of 599 6428 8699 (sums_of (at 599 8699 ∷ at 0 8700 ∷ [])) ≡ Time 240000
