-- Demand 3: "Take two of demand 2's predictions with the same head location, profile, targets, pressures and consist, except that one has speed
-- no lower, rated brake force no higher, application time no shorter and target offset no smaller. Its location is never short of the other's,
-- for a stop or for any target speed; and if the other calls for the penalty, so does it." And of document 02's R-5, for emergency. Statements over
-- machines; proofs/Machine.antt proves them.
use Rattle.std.specs.Prelude.{◌≡◌, true, false, ◌≤◌, ◌<◌}
use Rattle.decision.specs.declared.Decision.{Decision}
use Rattle.consist.specs.declared.Consist.{Consist}
use Rattle.brake.specs.declared.Brake.{Brake}
use Rattle.reading.specs.Readings.{nominal_of}
use Rattle.laws.specs.Approaches.{Worse, AsCautious}
use Rattle.laws.specs.Emergency.{EmergencyAsCautious}
use Rattle.session.specs.declared.Session.{Session}
use Rattle.sampling.specs.Sample.{sample_in, brake_after, approach, emergency, cause_after}
use Rattle.sampling.specs.Laws.{Lent}
use Rattle.demands.specs.Machine.{sampling, Lends, Machine, call, Holding, Holds, Decides}

-- of any two sample calls that are accepted, of any two machines, whatever their states
abbrev pub Demand3 : {S T : Type 0} → Holding S T → (m m' : Machine S T) → Type 0
Demand3 {S} h m m' =
    (z z' : S) (x y : Session) (l l' : Lent) (d d' : Decision) → Holds h z x → Holds h z' y → Lends (sampling l) → Lends (sampling l') →
    Decides h false (call m z (sampling l)) d → Decides h false (call m' z' (sampling l')) d' →
    let one = approach x (sample_in l.sample) l.profile in
    let other = approach y (sample_in l'.sample) l'.profile in
    Worse one other → l.targets ≡ l'.targets →
    -- "a call is the prediction's own, apart from a penalty already standing": where none stood before it, the other's penalty is its own call
    AsCautious one other × (d'.stop ≤ d.stop) × (y.cause ≡ 0 → d'.penalty ≡ true → d.penalty ≡ true)

-- R-5: "for this curve state, nominal and held equalization are equal too", of two brakes after their updates
pub record SameAir (c d : Consist) (k j : Brake) : Type 0 where
  pub state : k.state ≡ j.state
  pub equalization : k.equalization ≡ j.equalization
  pub nominal : nominal_of c.set k.last_front k.last_rear ≡ nominal_of d.set j.last_front j.last_rear

-- the same of the emergency's stop and call, "the curve's own, whether or not a penalty or an emergency already stands"; and of what two decisions
-- tell from their penalties on: the stops, and, where none stood before it, the other's emergency
abbrev pub Emergency3 : {S T : Type 0} → Holding S T → (m m' : Machine S T) → Type 0
Emergency3 {S} h m m' =
    (z z' : S) (x y : Session) (l l' : Lent) (d d' : Decision) → Holds h z x → Holds h z' y → Lends (sampling l) → Lends (sampling l') →
    Decides h true (call m z (sampling l)) d → Decides h true (call m' z' (sampling l')) d' →
    let n = sample_in l.sample in
    let n' = sample_in l'.sample in
    let one = emergency x n l.profile in
    let other = emergency y n' l'.profile in
    Worse (approach x n l.profile) (approach y n' l'.profile) → SameAir x.consist y.consist (brake_after x n) (brake_after y n') →
    l.targets ≡ l'.targets →
    EmergencyAsCautious one other
    × (0 < cause_after x n l.profile l.targets → 0 < cause_after y n' l'.profile l'.targets → d'.stop ≤ d.stop)
    × (0 < cause_after x n l.profile l.targets → y.emergency ≡ 0 → d'.penalty ≡ true → d.penalty ≡ true)
