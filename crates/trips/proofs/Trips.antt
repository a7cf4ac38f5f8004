-- Two trips, call beside call: the first penalty of the first comes no later. Assumes nothing.
use mathlib.Core.Path.{◌≡◌, refl, sym, ap, subst, subst₂, ◌∙◌}
use mathlib.Core.Bool.{Bool, true, false, cond, true≢false}
use mathlib.Core.List.{List, [], ◌∷◌}
use Prim.Native.Nat.{ℕ, suc, ◌≤◌}
use native.Mathlib.Omega.{arith}
use Rattle.refusal.specs.Steps.{kept}
use Rattle.refusal.specs.Verdict.{Verdict, Accepted}
use Rattle.refusal.proofs.Order.{passed, last_passed}
use Rattle.consist.specs.Consist.{read_consist}
use Rattle.sample.specs.Sample.{read_sample}
use Rattle.decision.specs.declared.Decision.{Decision}
use Rattle.decision.specs.Decision.{read_decision}
use Rattle.brake.specs.declared.Choice.{Choice}
use Rattle.admission.proofs.Admitted.{none_holds}
use Rattle.session.specs.declared.Session.{Session}
use Rattle.session.specs.Open.{opened_with, open_of}
use Rattle.sampling.specs.Sample.{sample_in, session_after}
use Rattle.sampling.specs.Steps.{rules_before}
use Rattle.sampling.specs.Laws.{Lent}
use Rattle.demands.specs.Machine.{opening, sampling, Lends, Reply, Machine, call, ours, Holding, Holds, Does, Accepts, record_of}
use Rattle.trips.specs.Trips.{Agreement, InHundredths, Beside, Trips, first_trip, second_trip, EachBeside, LendsTrips, AcceptsEach, decisions, NoLater, EachNoLater, until_penalty, WholeTrip}
use Rattle.demands.proofs.Carried.{Lawful, next_holds}
use Rattle.demands.proofs.Machine.{decision_by, before, made, decided, ready_of}
use Rattle.trips.proofs.Faster.{MeansFaster}
use Rattle.trips.proofs.Pair.{Same, next_same, no_later}

-- so the first penalty comes no later
until : (ds ds' : List Decision) → EachNoLater ds ds' → until_penalty ds ≤ until_penalty ds'
until [] [] e = omega arith
until [] (d' ∷ ds') e = absurd e
until (d ∷ ds) [] e = absurd e
until (d ∷ ds) (d' ∷ ds') e = by d.penalty d'.penalty e.0.penalty (until ds ds' e.1)
  where
    by : (p p' : Bool) → (p' ≡ true → p ≡ true) → until_penalty ds ≤ until_penalty ds' → cond p 0 (suc (until_penalty ds)) ≤ cond p' 0 (suc (until_penalty ds'))
    by true p' f g = omega arith
    by false true f g = absurd (true≢false (sym (f refl)))
    by false false f g = omega arith

-- ---- the calls of two trips

-- an opening that is accepted gives one session, whatever stood before
opened_is : (x : Session) (s : List ℕ) (choice : Choice) → (open_of x s choice).verdict ≡ Accepted → (open_of x s choice).session ≡ opened_with (read_consist s).1 choice
unfolding open_of
opened_is x s choice h = ap (λ (v : Verdict). kept v (opened_with (read_consist s).1 choice) x) h

opened_same : (x y : Session) (s : List ℕ) (choice : Choice) → (open_of x s choice).verdict ≡ Accepted → (open_of y s choice).verdict ≡ Accepted
    → Same (open_of x s choice).session (open_of y s choice).session
opened_same x y s choice h k =
    let z = opened_with (read_consist s).1 choice in
    let one : Same z z = record { consist = refl; brake = refl; learner = refl; cause = λ some. absurd (omega arith) } in
    subst₂ Same (sym (opened_is x s choice h)) (sym (opened_is y s choice k)) one

-- of one machine: what it accepts the definition does, and its output reads as that decision
module _ {S T : Type 0} (h : Holding S T) (w : Lawful h) (m : Machine S T) (does : Does h m) (z : S) (x : Session) (o : Holds h z x) (l : Lent) (b : Lends (sampling l))
    (a : Accepts h (call m z (sampling l))) where
  is_accepted : (call ours x (sampling l)).told ≡ Accepted
  is_accepted = w.apart _ Accepted (sym (ap (λ (r : Reply S T). r.told) (does z x o (sampling l) b)) ∙ a)

  reads : (read_decision (record_of false (call m z (sampling l)).out)).1 ≡ decision_by x l false
  reads =
      ap (λ (r : Reply S T). (read_decision (record_of false r.out)).1) (does z x o (sampling l) b)
      ∙ ap (λ (r : Verdict × Decision). r.1) (decided x l is_accepted false).reads

  next_is : (call ours x (sampling l)).state ≡ session_after x (sample_in l.sample) l.profile l.targets
  next_is = ap (λ (r : Reply Session Verdict). r.state) (made x l is_accepted)

  next_held : Holds h (call m z (sampling l)).state (session_after x (sample_in l.sample) l.profile l.targets)
  next_held = subst (Holds h (call m z (sampling l)).state) next_is (next_holds h w m does z x o (sampling l) b)

-- the reader accepts its sample
sample_read : (x : Session) (l : Lent) → (call ours x (sampling l)).told ≡ Accepted → (read_sample l.sample).0 ≡ Accepted
unfolding read_sample
sample_read x l h =
    let (_, (length, (mark, (_, (_, (reading, _)))))) = none_holds (rules_before x l.sample l.profile l.targets) (before x l h) in
    passed _ _ _ length ∙ passed _ _ _ mark ∙ last_passed _ _ reading

module _ (Agree : Agreement) (means : MeansFaster Agree) {S T S' T' : Type 0} (h : Holding S T) (h' : Holding S' T') (w : Lawful h) (w' : Lawful h')
    (m : Machine S T) (m' : Machine S' T') (does : Does h m) (does' : Does h' m') where
  each : (ps : Trips) (z : S) (z' : S') (x y : Session) → Holds h z x → Holds h' z' y → Same x y → LendsTrips ps → EachBeside Agree ps
      → AcceptsEach m h z (first_trip ps) → AcceptsEach m' h' z' (second_trip ps) → EachNoLater (decisions m z (first_trip ps)) (decisions m' z' (second_trip ps))
  each [] z z' x y o o' same b beside a a' = tt
  each (p ∷ ps) z z' x y o o' same b beside a a' =
      let l = p.0 in
      let l' = p.1 in
      let admitted = is_accepted h w m does z x o l b.0 a.0 in
      let admitted' = is_accepted h' w' m' does' z' y o' l' b.1 a'.0 in
      let ready = ready_of x l admitted in
      let ready' = ready_of y l' admitted' in
      let faster : Beside InHundredths l l' =
      record {
        profile = beside.0.profile;
        targets = beside.0.targets;
        sample = means _ _ b.0.0.0 b.1.0.0 (sample_read x l admitted) (sample_read y l' admitted') beside.0.sample;
      } in (
        subst₂ NoLater (sym (reads h w m does z x o l b.0 a.0)) (sym (reads h' w' m' does' z' y o' l' b.1 a'.0)) (no_later x y same l l' faster ready ready'),
        each ps _ _ _ _ (next_held h w m does z x o l b.0 a.0) (next_held h' w' m' does' z' y o' l' b.1 a'.0) (next_same x y same l l' faster ready ready')
            b.2 beside.1 a.1 a'.1,
      )

  pub whole_trip : WholeTrip Agree h h' m m'
  whole_trip z z' s choice ps fits fits' b bs beside a a' all all' =
      let k = opening s choice in
      let o : Holds h z (h.session z) = (fits, refl) in
      let o' : Holds h' z' (h'.session z') = (fits', refl) in
      let first_opens = w.apart _ Accepted (sym (ap (λ (r : Reply S T). r.told) (does z (h.session z) o k b)) ∙ a) in
      let second_opens = w'.apart _ Accepted (sym (ap (λ (r : Reply S' T'). r.told) (does' z' (h'.session z') o' k b)) ∙ a') in
      let every =
      each ps (call m z k).state (call m' z' k).state _ _ (next_holds h w m does z (h.session z) o k b) (next_holds h' w' m' does' z' (h'.session z') o' k b)
      (opened_same (h.session z) (h'.session z') s choice first_opens second_opens) bs beside all all' in
      (every, until (decisions m (call m z k).state (first_trip ps)) (decisions m' (call m' z' k).state (second_trip ps)) every)
