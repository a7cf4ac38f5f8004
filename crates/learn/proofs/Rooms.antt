-- Sums are sound, and stay so with a point more. Assumes nothing.
use Prim.Native.Nat.{ℕ, ◌≤◌, ◌<◌}
use native.Mathlib.Nat.{mul-le-mul}
use native.Mathlib.Omega.{arith}
use Rattle.trend.specs.declared.Sums.{Sums}
use Rattle.trend.specs.Points.{no_sums, with_point}
use Rattle.trend.specs.Sound.{most, most_seconds, most_pressure, Sound}

pub none_sound : Sound no_sums
none_sound = omega arith

pub point_sound : (s : Sums) (t p : ℕ) → Sound s → s.count < most → t ≤ most_seconds → p ≤ most_pressure → Sound (with_point s t p)
point_sound s t p h room timely within = omega (arith, mul-le-mul timely timely, mul-le-mul timely within)
