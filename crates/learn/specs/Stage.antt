-- How far learning is, as a number, and what is kept of it. Definitions only.
use Rattle.std.specs.Prelude.{ℕ, Bool, ◌&&◌, List, [], ◌∷◌, eqb, get_or}
use Rattle.trend.specs.Points.{no_sums}
use Rattle.learn.specs.declared.Stage.{Stage}
use Rattle.learn.specs.declared.Stage.TheVariants.{Waiting, FrontFell, Initial, Falling, Done}
use Rattle.learn.specs.declared.Learner.{Learner}

-- 0 waiting, 1 the front fell and there is no p0 yet, 2 with p0, 3 with points, 4 done
abbrev pub stage_number : Stage → ℕ
stage_number Waiting = 0
stage_number FrontFell = 1
stage_number Initial = 2
stage_number Falling = 3
stage_number Done = 4

-- the stage of a number; a number past 4 is no stage's, and counts as 4
abbrev pub stage_of : ℕ → Stage
stage_of n = get_or (Waiting ∷ FrontFell ∷ Initial ∷ Falling ∷ []) n Done

-- stage, when the front fell, t_INIT, the last point's t, p0 or the last point's p, N, Σt, Σt², Σp, Σtp
abbrev pub learner_told : Learner → List ℕ
learner_told l =
    let s = l.sums in
    stage_number l.stage ∷ l.since ∷ l.init ∷ l.last ∷ l.pressure ∷ s.count ∷ s.times ∷ s.squares ∷ s.pressures ∷ s.products ∷ []

-- a stage without points
abbrev pub without_points : Stage → (since pressure : ℕ) → Learner
without_points stage since pressure = record { stage = stage; since = since; init = 0; last = 0; pressure = pressure; sums = no_sums }

-- and one that keeps nothing
abbrev pub bare : Stage → Learner
bare stage = without_points stage 0 0

-- "Opening forgets it"
abbrev pub at_opening : Learner
at_opening = bare Waiting

unfoldable pub is_at_opening : Learner → Bool
is_at_opening l =
    eqb (stage_number l.stage) 0
    && eqb l.since 0
    && eqb l.init 0
    && eqb l.last 0
    && eqb l.pressure 0
    && eqb l.sums.count 0
    && eqb l.sums.times 0
    && eqb l.sums.squares 0
    && eqb l.sums.pressures 0
    && eqb l.sums.products 0
