-- Demand 3 for emergency: brakes with the same air have the same emergency air, and the laws compare the rest. Assumes nothing.
use mathlib.Core.Path.{◌≡◌, sym, ap, ap₂, ◌∙◌, subst, subst₂}
use mathlib.Core.Bool.{Bool, true, false, cond, true≢false, false≢true}
use mathlib.Core.List.{List}
use Prim.Native.Nat.{ℕ, zero, suc, ◌≤◌, ◌<◌}
use native.Mathlib.Omega.{arith}
use borrow.Author.Tests.{ne_eqb}
use Rattle.consist.specs.declared.Consist.{Consist}
use Rattle.decision.specs.declared.Decision.{Decision}
use Rattle.brake.specs.declared.Brake.{Brake}
use Rattle.reading.specs.Readings.{nominal_of}
use Rattle.air.specs.declared.Air.{Air}
use Rattle.air.specs.Air.{air_of}
use Rattle.air.specs.Rules.{equalization_emergency, combined, start_emergency}
use Rattle.air.specs.Emergency.{in_emergency, emergency_air}
use Rattle.judge.specs.Judge.{standing}
use Rattle.judge.specs.Emergency.{emergency_stop, emergency_call_of}
use Rattle.prediction.specs.Prediction.{behind}
use Rattle.laws.specs.Emergency.{EmergencyCompared}
use Rattle.laws.proofs.Emergency.{emergency_compared}
use Rattle.session.specs.declared.Session.{Session}
use Rattle.sampling.specs.Sample.{sample_in, brake_after, emergency, prediction, cause_after, emergency_after}
use Rattle.sampling.specs.Laws.{Lent}
use Rattle.demands.specs.Machine.{sampling, call, ours, Decides, Machine, Holding, Does}
use Rattle.demands.specs.Program.{by_value}
use Rattle.demands.specs.Demand3.{SameAir, Emergency3}
use Rattle.demands.proofs.Carried.{Lawful, decides}
use Rattle.demands.proofs.Machine.{is_decided, not-zero, is_not_zero, own_call, some_cause, admitted}

module _ (c d : Consist) (k j : Brake) (same : SameAir c d k j) (a : k.a ≡ j.a) (b : k.b ≡ j.b) where
  -- equal in what the curve takes
  abbrev Alike : Air → Air → Type 0
  Alike x y = (x.a ≡ y.a) × (x.b ≡ y.b) × (x.equalization ≡ y.equalization)

  abbrev nominal : Consist → Brake → ℕ
  nominal e i = nominal_of e.set i.last_front i.last_rear

  applied : (n : ℕ) → nominal c k ≡ n → Alike (start_emergency (air_of k) (nominal c k)) (start_emergency (air_of j) n)
  unfolding start_emergency
  applied n e = (ap₂ combined a e, b, λ i. equalization_emergency (a i) (b i) (e i))

  air_same : Alike (emergency_air c k) (emergency_air d j)
  unfolding emergency_air
  air_same = by (in_emergency k.state) (in_emergency j.state) (ap in_emergency same.state)
    where
      by : (p q : Bool) → p ≡ q → Alike (cond p (air_of k) (start_emergency (air_of k) (nominal c k))) (cond q (air_of j) (start_emergency (air_of j) (nominal d j)))
      by true true e = (a, b, same.equalization)
      by false false e = applied (nominal d j) same.nominal
      by true false e = absurd (true≢false e)
      by false true e = absurd (false≢true e)

-- from its penalty on a decision tells the emergency's own stop
stop_is : (x : Session) (l : Lent) (d : Decision) → Decides by_value true (call ours x (sampling l)) d
    → 0 < cause_after x (sample_in l.sample) l.profile l.targets → d.stop ≡ emergency_stop (emergency x (sample_in l.sample) l.profile)
unfolding cause_after
stop_is x l d h some =
    let n : cause_after x (sample_in l.sample) l.profile l.targets ≡ 0 → ⊥ = λ e. omega arith in
    ap (λ (f : Decision). f.stop) (is_decided x l true d h)
    ∙ ap (λ (t : Bool). cond t 0 (emergency_stop (emergency x (sample_in l.sample) l.profile))) (ne_eqb _ 0 n)

-- what is told behind a penalty is told only where there is something
behind_some : (cause told : ℕ) → 0 < behind cause told → 0 < told
behind_some zero told h = absurd (omega arith)
behind_some (suc n) told h = subst (λ (b : Bool). 0 < cond b 0 told) (ne_eqb (suc n) 0 (λ e. omega arith)) h

module _ (x : Session) (l : Lent) (d : Decision) (h : Decides by_value true (call ours x (sampling l)) d) where
  abbrev found : ℕ
  found = emergency_call_of (emergency x (sample_in l.sample) l.profile) l.targets

  -- where none stood, the bit is the prediction's own call
  own_emergency : x.emergency ≡ 0 → d.penalty ≡ true → 0 < found
  unfolding emergency_after
  own_emergency none commanded =
      let some = not-zero (emergency_after x (sample_in l.sample) l.profile l.targets) (sym (ap (λ (f : Decision). f.penalty) (is_decided x l true d h)) ∙ commanded) in
      let stands = standing x.cause (prediction x (sample_in l.sample) l.profile l.targets).called in
      behind_some stands found (own_call x.emergency (behind stands found) none some)

  -- and behind a penalty a call sets it
  emergency_commanded : 0 < cause_after x (sample_in l.sample) l.profile l.targets → 0 < found → d.penalty ≡ true
  unfolding cause_after emergency_after
  emergency_commanded stands called =
      let n : cause_after x (sample_in l.sample) l.profile l.targets ≡ 0 → ⊥ = λ e. omega arith in
      ap (λ (f : Decision). f.penalty) (is_decided x l true d h)
      ∙ is_not_zero _ (some_cause x.emergency _ (subst (λ (b : Bool). 0 < cond b 0 found) (sym (ne_eqb _ 0 n)) called))

pub emergency_3 : {S T : Type 0} (h : Holding S T) → Lawful h → (m m' : Machine S T) → Does h m → Does h m' → Emergency3 h m m'
unfolding EmergencyCompared
emergency_3 h w m m' does does' z z' x y l l' d d' o o' b b' e e' worse air targets =
    let first = decides h w m does z x o l b true d e in
    let second = decides h w m' does' z' y o' l' b' true d' e' in
    let ready = admitted x l true d first in
    let same = air_same x.consist y.consist (brake_after x (sample_in l.sample)) (brake_after y (sample_in l'.sample)) air worse.a worse.b in
    let cautious =
    emergency_compared (emergency x (sample_in l.sample) l.profile) (emergency y (sample_in l'.sample) l'.profile) ready.consist
    ready.head
    (record {
      speed = worse.speed;
      rated = worse.rated;
      cars = worse.cars;
      axles = worse.axles;
      weight = worse.weight;
      length = worse.length;
      blocks = worse.blocks;
      a = same.0;
      b = same.1;
      equalization = same.2;
      track = worse.track;
      head = worse.head;
    }) in (
      cautious,
      λ stands stands'. subst₂ ◌≤◌ (sym (stop_is y l' d' second stands')) (sym (stop_is x l d first stands)) cautious.stop,
      λ stands none commanded.
          let called = own_emergency y l' d' second none commanded in
          emergency_commanded x l d first stands (cautious.called l.targets (subst (λ (t : List ℕ). 0 < emergency_call_of (emergency y (sample_in l'.sample) l'.profile) t) (sym targets) called)),
    )
