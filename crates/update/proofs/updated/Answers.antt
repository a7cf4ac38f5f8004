-- `update::updated` meets its contract. Assumes nothing.
use mathlib.Core.Path.{◌≡◌}
use Prim.Native.Nat.{ℕ}
use Rattle.consist.specs.declared.Consist.{Consist}
use Rattle.sample.specs.declared.RearPressure.{RearPressure}
use Rattle.brake.specs.declared.Brake.{Brake}
use Rattle.brake.specs.Rear.{Heard}
use Rattle.reading.specs.declared.Reading.{Reading}
use Rattle.reading.specs.Readings.{heard_after, reading_of}
use Rattle.air.specs.declared.Air.{Air}
use Rattle.air.specs.Air.{air_of, with_last}
use Rattle.update.specs.Rules.{rule_of, update_of}
use Rattle.update.proofs.updated.Goals as goal

-- from the reading, the air that is held and what a rule makes of it, by the calls
together : (c : Consist) (k : Brake) (time front : ℕ) (rear : RearPressure) (r : Reading) (held next : Air) (heard : Heard)
    → r ≡ reading_of c k time front rear → held ≡ air_of k → next ≡ rule_of held.state c held r → heard ≡ heard_after k.heard time rear
    → with_last next front r.rear time k.choice heard ≡ update_of c k time front rear
unfolding update_of
together c k time front rear r held next heard read own ruled last = rw (last, ruled, own, read)

pub returns : goal.returns
returns c = let m = c.args.m in
    together c.args.c c.args.k m.time m.front m.rear _ _ _ _ c.of_sample-reading.ensures c.of.ensures c.ruled-next.ensures c.heard.ensures
