use Rattle.prediction.proofs.Ready.{walkable, emergency_walkable}
use Rattle.prediction.proofs.of_sample.Goals as goal

pub over_route-requires-clause-walkable : goal.over_route-requires-clause-walkable
over_route-requires-clause-walkable c = rw c.laid-track.ensures (walkable _ _ _ _ c.requires)

pub over_route-requires-clause-walkable_2 : goal.over_route-requires-clause-walkable_2
over_route-requires-clause-walkable_2 c = rw c.laid-track.ensures (emergency_walkable _ _ _ _ c.requires)
