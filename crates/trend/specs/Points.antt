-- Points of a falling rear pressure, and their sums. Definitions only.
use Rattle.std.specs.Prelude.{ℕ, ◌+◌, ◌*◌, List, [], ◌∷◌, length}
use Rattle.trend.specs.declared.Sums.{Sums}

-- "the rear brake pipe pressure is recorded as p_N, the time on the timer is recorded as t_N"
pub record Point : Type 0 where
  pub t : ℕ
  pub p : ℕ

-- a sum over the points
abbrev pub total : (Point → ℕ) → List Point → ℕ
total f [] = 0
total f (x ∷ xs) = total f xs + f x

-- N, Σt, Σt², Σp, Σtp
unfoldable pub sums_of : List Point → Sums
sums_of xs = record {
  count = length xs;
  times = total (λ x. x.t) xs;
  squares = total (λ x. x.t * x.t) xs;
  pressures = total (λ x. x.p) xs;
  products = total (λ x. x.t * x.p) xs;
}

-- the sums of no point, and with one point more
abbrev pub no_sums : Sums
no_sums = record { count = 0; times = 0; squares = 0; pressures = 0; products = 0 }

abbrev pub with_point : Sums → (t p : ℕ) → Sums
with_point s t p = record {
  count = s.count + 1;
  times = s.times + t;
  squares = s.squares + t * t;
  pressures = s.pressures + p;
  products = s.products + t * p;
}
