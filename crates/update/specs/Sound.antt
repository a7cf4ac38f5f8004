-- What an update requires, and of what readings it keeps the invariant. Definitions only.
use Rattle.std.specs.Prelude.{ℕ, ◌*◌, ◌≤◌}
use Rattle.consist.specs.declared.Consist.{Consist}
use Rattle.consist.specs.Sound as consist
use Rattle.sample.specs.declared.RearPressure.{RearPressure}
use Rattle.sample.specs.declared.RearPressure.TheVariants.{Present, Lost}
use Rattle.brake.specs.declared.Brake.{Brake}
use Rattle.brake.specs.Sound as brake
use Rattle.brake.specs.Sound.{most_pressure, most_time, most_b, most_fall, Balance}
use Rattle.air.specs.declared.Air.{Air}

pub record Usable (c : Consist) (k : Brake) : Type 0 where
  pub consist : consist.Sound c
  pub brake : brake.Sound c k

-- what the invariant says of what the rules change
pub record AirSound (c : Consist) (k : Air) : Type 0 where
  pub a : k.a ≤ c.set
  pub b : k.b ≤ most_b
  pub equalization : 7 * k.equalization ≤ 6 * c.set
  pub fall : k.fall ≤ most_fall
  pub hold : k.hold ≤ most_pressure
  pub balance : Balance k.state c.set k.a k.b k.equalization

abbrev pub RearMost : RearPressure → Type 0
RearMost (Present rear) = rear ≤ most_pressure
RearMost Lost = Unit {0}

-- the readings of an accepted sample, each in its range
pub record InRange (time front : ℕ) (rear : RearPressure) : Type 0 where
  pub time_most : time ≤ most_time
  pub front_most : front ≤ most_pressure
  pub rear_most : RearMost rear
