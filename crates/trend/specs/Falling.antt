-- Of points that fall there always is a result, and it is inside the consist's range. Statements; proofs/{Falling,Ranges}.antt prove them.
use Rattle.std.specs.Prelude.{◌≡◌, List, [], ◌∷◌, ℕ, ◌≤◌, ◌<◌, pos, ◌<ℤ◌}
use Rattle.trend.specs.declared.Sums.{Sums}
use Rattle.trend.specs.Result.{Time}
use Rattle.trend.specs.Points.{Point, sums_of}
use Rattle.trend.specs.Result.{divisor, result_of}

-- the latest point first, each later than the one before it, and lower
unfoldable pub Falls : List Point → Type 0
Falls [] = Unit {0}
Falls (x ∷ []) = Unit {0}
Falls (x ∷ y ∷ ys) = (y.t < x.t) × (x.p < y.p) × Falls (y ∷ ys)

-- Y is above 0
unfoldable pub FallingPoints : Type 0
FallingPoints = (equ p : ℕ) (x y : Point) (ys : List Point) → Falls (x ∷ y ∷ ys) → pos 0 <ℤ divisor equ p (sums_of (x ∷ y ∷ ys))

-- "held inside the consist's range", whatever the sums
unfoldable pub ResultInRange : Type 0
ResultInRange = (init equ p ms : ℕ) (s : Sums) → result_of init equ p s ≡ Time ms → (1000 ≤ ms) × (ms ≤ 240000)
