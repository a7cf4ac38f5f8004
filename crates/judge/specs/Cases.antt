-- What the judgement comes to where there is no location, and where the train is nowhere faster than the target. Statements; proofs/Cases.antt
-- proves them.
use Rattle.std.specs.Prelude.{◌≡◌, true, false, ℕ, ◌*◌, ◌≤◌}
use Rattle.record.specs.Location.{farthest}
use Rattle.consist.specs.declared.Consist.{Consist}
use Rattle.step.specs.Step.{steps_most, Ground}
use Rattle.walk.specs.Walk.{never, stays, start, arrival_for, location_of}
use Rattle.judge.specs.Judge.{is_judged, offset_for, is_called, is_emergency_called}

-- "Without one in 2,048 steps there is none, and it counts as beyond every target", of those whose location is "at most 4,000,000"
unfoldable pub NoneIsBeyond : Type 0
NoneIsBeyond =
    (offset head v target u : ℕ) → target ≤ farthest → is_judged head target ≡ true → is_called offset head v target u (location_of never) ≡ true

-- "0 where v is not above u"
unfoldable pub NoOffset : Type 0
NoOffset = (offset v u : ℕ) → v ≤ u → offset_for offset v u ≡ 0

-- the location for a target that the train is nowhere in its walk faster than is the head, and such a target never calls
unfoldable pub NowhereFaster : Type 0
NowhereFaster =
    (c : Consist) (force : ℕ → ℕ) (ground : Ground) (offset head v target u : ℕ) → stays c force ground (u * u) steps_most (start head v) ≡ true →
    is_called offset head v target u (location_of (arrival_for c force ground head v u)) ≡ false

-- no stop is past every target: an emergency that has none is called for each that is judged and has no speed
unfoldable pub NoStopIsPast : Type 0
NoStopIsPast = (head target : ℕ) → target ≤ farthest → is_judged head target ≡ true → is_emergency_called head target 0 (location_of never) ≡ true
