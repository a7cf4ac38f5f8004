-- The invariant of what is kept, as facts and as a test. Definitions only.
use Rattle.std.specs.Prelude.{ℕ, ◌-◌, ◌^◌, ◌≤◌, Bool, ◌&&◌, leb}
use Rattle.trend.specs.Sound.{most_seconds, most_pressure}
use Rattle.trend.specs.Sound as trend
use Rattle.learn.specs.declared.Learner.{Learner}

-- 24 bits of seconds
abbrev pub most_time : ℕ
most_time = 2 ^ 24 - 1

pub record Sound (l : Learner) : Type 0 where
  pub since : l.since ≤ most_time
  pub init : l.init ≤ most_seconds
  pub last : l.last ≤ most_seconds
  pub pressure : l.pressure ≤ most_pressure
  pub sums : trend.Sound l.sums

unfoldable pub is_sound : Learner → Bool
is_sound l =
    leb l.since most_time
    && leb l.init most_seconds
    && leb l.last most_seconds
    && leb l.pressure most_pressure
    && trend.is_sound l.sums
