-- "Four useless programs have to be rejected." A statement over a machine, and one over a walk; proofs/Useless.antt proves them.
use Rattle.std.specs.Prelude.{◌≡◌, false, List, ℕ, zero, suc, ◌+◌, leb, pos, ◌-ℤ◌, take, drop}
use contract.Lifetimes.{Lfts}
use borrow.Fn.World.{ArgsD}
use denote.Triple.Clauses.{AtExit}
use Rattle.whole.specs.Floor.{cut}
use Rattle.whole.specs.Root.{root_of}
use Rattle.refusal.specs.declared.Refusal.{Refusal}
use Rattle.refusal.specs.Verdict.{Refused}
use Rattle.consist.specs.declared.Consist.{Consist}
use Rattle.decision.specs.declared.Decision.{Decision}
use Rattle.decision.specs.Decision.{size}
use Rattle.track.specs.declared.Track.{Track}
use Rattle.step.specs.declared.Curve.{Curve}
use Rattle.walk.specs.declared.Prediction.{Prediction}
use Rattle.step.specs.declared.Run.{Run}
use Rattle.step.specs.Curve.{force_at}
use Rattle.step.specs.Step.{Ground, ground_of, loss, step_time}
use Rattle.walk.specs.Walk.{Arrival, never, arrival_by, start, location_of, predict_of}
use Rattle.walk.specs.Range.{Walkable}
use Rattle.walk.specs.contracts.predict.{signature, ended}
use Rattle.walk.proofs.predict.Reads as predict_reads
use Rattle.judge.specs.Approach.{Approach, force, ground}
use Rattle.brake.specs.declared.Choice.{Choice}
use Rattle.sampling.specs.Sample.{sample_in, approach}
use Rattle.sampling.specs.Laws.{Lent}
use Rattle.demands.specs.Machine.{Call, opening, sampling, Slice, Lends, LendsEach, Reply, Machine, call, after, Holding, Accepts, Decides}

-- ---- the walk that makes one honest step and repeats it

-- a step from the values at the start of the first one, and not from those at its own
unfoldable pub step_again : Consist → (ℕ → ℕ) → Ground → Run → Run → Run
step_again c force ground first r = record {
  head = r.head + 16;
  clock = r.clock + step_time (root_of first.q);
  q =
      cut
      (pos r.q
      -ℤ loss c (force first.clock) (root_of first.q) first.q (ground.grade first.head) (ground.curvature first.head));
}

unfoldable pub walk_again : Consist → (ℕ → ℕ) → Ground → Run → ℕ → ℕ → Run → Arrival
walk_again c force ground first limit zero r = arrival_by (leb r.q limit) r.head never
walk_again c force ground first limit (suc n) r =
    let rest : Arrival = walk_again c force ground first limit n (step_again c force ground first r) in
    arrival_by (leb r.q limit) r.head rest

-- where it stops
unfoldable pub stop_again : Consist → (ℕ → ℕ) → Ground → ℕ → ℕ → ℕ
stop_again c force ground head v = location_of (walk_again c force ground (start head v) 0 2048 (start head v))

-- of an approach
abbrev pub stop_by : Approach → ℕ
stop_by x = stop_again x.consist (force x) (ground x) x.head x.speed

-- ---- a machine that meets its contracts is none of these

module _ {S T : Type 0} (h : Holding S T) (m : Machine S T) where
  -- what holds of every sample call of every run, by the state before it, what is lent and the reply
  abbrev pub EverySample : (S → Lent → Reply S T → Type 0) → Type 0
  EverySample P =
      (ks : List Call) (l : Lent) → LendsEach ks → Lends (sampling l) →
      let z = after m m.none ks in
      P z l (call m z (sampling l))

  -- refused, whatever the number
  abbrev pub IsRefused : Reply S T → Type 0
  IsRefused r = (n : Refusal) × (r.told ≡ h.tell (Refused n))

  -- what a decision tells after its mark and time: brake state, penalty, cause and stopping location
  abbrev pub said : Reply S T → List ℕ
  said r = drop 4 (take size r.out)

  pub record NotUseless : Type 0 where
    -- "One that refuses everything is caught by demand 1's exact conditions."
    pub refuses_openings : ((ks : List Call) (s : List ℕ) (choice : Choice) → LendsEach ks → Slice s → IsRefused (call m (after m m.none ks) (opening s choice))) → ⊥
    pub refuses_samples : EverySample (λ z l r. IsRefused r) → ⊥
    -- "One with a constant answer, and one that leaves session and output untouched, are caught by demand 2"
    pub constant : (b : List ℕ) → EverySample (λ z l r. Accepts h r → said r ≡ b) → ⊥
    pub session_untouched : EverySample (λ z l r. r.state ≡ z) → ⊥
    pub output_untouched : EverySample (λ z l r. r.out ≡ l.out) → ⊥
    -- "One that walks one honest step, or takes one honest sample, and repeats it is caught by the later ones in demand 2.": the stop that is
    -- decided is that of the repeated step; what is said of an accepted sample is said of the next one again
    pub repeats_step : EverySample (λ z l r. (d : Decision) → Decides h false r d → d.stop ≡ stop_by (approach (h.session z) (sample_in l.sample) l.profile)) → ⊥
    pub repeats_sample : EverySample (λ z l r.
        (l' : Lent) → Lends (sampling l') →
        let r' = call m r.state (sampling l') in
        Accepts h r → Accepts h r' → said r' ≡ said r) → ⊥

-- ---- the repeated step, of what stands in for walk::predict, whose contract, of every input that it asks for, the check reads from the source

abbrev pub Walker : Type 0
Walker = Consist → Curve → Track → ℕ → ℕ → List ℕ → Prediction

abbrev pub MeetsPredict : Walker → Type 0
MeetsPredict w =
    (κs : Lfts 1) (a : ArgsD signature κs) (x : AtExit ended κs) → predict_reads.Pre κs a →
    let (c, (curve, (route, (head, (v, (speeds, _)))))) = a in
    predict_reads.Post κs a (w c curve route.track.now head v speeds) x

abbrev pub WalkRepeatsStep : Walker → Type 0
WalkRepeatsStep w =
    (c : Consist) (curve : Curve) (track : Track) (head v : ℕ) (speeds : List ℕ) → Walkable c curve track head v →
    (w c curve track head v speeds).stop ≡ stop_again c (force_at c.rated curve) (ground_of track c) head v

-- one meets the contract, and none that does repeats the step
pub record WalkNotUseless : Type 0 where
  pub meets : MeetsPredict (λ c curve track head v speeds. predict_of c (force_at c.rated curve) (ground_of track c) head v speeds)
  pub repeats_step : (w : Walker) → MeetsPredict w → WalkRepeatsStep w → ⊥
