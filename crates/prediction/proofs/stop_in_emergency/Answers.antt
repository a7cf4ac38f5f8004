-- From the air, the curve and the walk, by the calls.
use mathlib.Core.Path.{◌≡◌}
use mathlib.Core.List.{List}
use Prim.Native.Nat.{ℕ}
use Rattle.consist.specs.declared.Consist.{Consist}
use Rattle.sample.specs.declared.Sample.{Sample}
use Rattle.brake.specs.declared.Brake.{Brake}
use Rattle.air.specs.declared.Air.{Air}
use Rattle.air.specs.Emergency.{emergency_air}
use Rattle.track.specs.declared.Track.{Track}
use Rattle.step.specs.declared.Curve.{Curve}
use Rattle.step.specs.Curve.{force_at, emergency_curve}
use Rattle.step.specs.Step.{ground_of}
use Rattle.walk.specs.declared.Prediction.{Prediction}
use Rattle.walk.specs.Walk.{predict_of}
use Rattle.judge.specs.Emergency.{emergency_arrival, emergency_stop}
use Rattle.prediction.specs.Prediction.{emergency_over}
use Rattle.prediction.proofs.stop_in_emergency.Goals as goal

together : (c : Consist) (k : Brake) (m : Sample) (t : Track) (air : Air) (curve : Curve) (speeds : List ℕ) (found : Prediction)
    → air ≡ emergency_air c k → curve ≡ emergency_curve air.a air.b air.equalization
    → found ≡ predict_of c (force_at c.rated curve) (ground_of t c) m.head m.speed speeds
    → found.stop ≡ emergency_stop (emergency_over c k m t)
unfolding emergency_arrival predict_of
together c k m t air curve speeds found started drawn walked = rw (walked, drawn, started)

pub returns : goal.returns
returns c =
    let a = c.args in
    together a.c a.k a.m a.route.track.now c.in_emergency-air.result c.emergency-curve.result _ c.predict.result c.in_emergency-air.ensures c.emergency-curve.ensures
    c.predict.ensures
