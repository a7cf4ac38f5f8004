-- What `predict` asks for. A definition only.
use Rattle.std.specs.Prelude.{ℕ, ◌≤◌}
use Rattle.record.specs.Location.{farthest}
use Rattle.blocks.specs.Sound.{Sound}
use Rattle.consist.specs.declared.Consist.{Consist}
use Rattle.track.specs.declared.Track.{Track}
use Rattle.track.specs.Gentle.{Gentle}
use Rattle.step.specs.declared.Curve.{Curve}
use Rattle.step.specs.Range.{Braking}
use Rattle.step.specs.Gain.{Limited, speed_most}

-- "rated brake force in lb (0 to 10,000,000)", blocks that are right for the consist, a head where a profile may have a start, "at most 4,000,000", and a speed that is not "above 100"
pub record Walkable (c : Consist) (k : Curve) (t : Track) (h v : ℕ) : Type 0 where
  pub limited : Limited c
  pub rated : c.rated ≤ 10000000
  pub blocks : Sound c.blocks c.length c.weight
  pub curve : Braking k
  pub track : Gentle t
  pub head : h ≤ farthest
  pub speed : v ≤ speed_most
