-- The useless programs do not meet the contracts: each answers the case of document 01 otherwise. Assumes nothing.
use mathlib.Core.Path.{◌≡◌, refl, sym, ap, ◌∙◌}
use mathlib.Core.Bool.{Bool, true, false, ◌&&◌}
use mathlib.Core.List.{List, [], ◌∷◌, map}
use Prim.Native.Nat.{ℕ, zero, suc, ◌^◌}
use native.Mathlib.Omega.{arith}
use lib.Dec.{ltb}
use lib.ListN.{length, get_or, take, drop}
use borrow.Author.Tests.{ltb-true}
use borrow.Fn.World.{ArgsD}
use denote.Ref.{Bor}
use Rattle.bits.specs.Bytes.{Bytes}
use Rattle.bits.proofs.Ranges.{and-true_left, and-true_right}
use Rattle.refusal.specs.declared.Refusal.TheVariants.{WrongTime}
use Rattle.refusal.specs.Verdict.{Verdict, Accepted, Refused}
use Rattle.targets.specs.Targets.{most, speeds_in}
use Rattle.decision.specs.declared.Decision.{Decision}
use Rattle.decision.specs.Decision.{size, read_decision}
use Rattle.walk.specs.declared.Prediction.{Prediction}
use Rattle.track.specs.Totals.{totals_of}
use Rattle.step.specs.Curve.{penalty_curve}
use Rattle.walk.specs.contracts.predict.{signature}
use Rattle.judge.specs.Approach.{Approach, prediction_of}
use Rattle.prediction.proofs.Ready.{walkable}
use Rattle.brake.specs.declared.Choice.TheVariants.{FiveSeconds}
use Rattle.session.specs.declared.Session.{Session}
use Rattle.session.specs.Session.{none_open}
use Rattle.sampling.specs.Sample.{sample_in, brake_after, approach}
use Rattle.sampling.specs.Laws.{Lent}
use Rattle.sampling.proofs.Accepted.{predictable}
use Rattle.sampling.proofs.Admitted.{ready}
use Rattle.sampling.proofs.Computing.{computing}
use Rattle.demands.specs.Machine.{Call, opening, sampling, Slice, Lends, LendsEach, Reply, Machine, call, replies, after, ours, Holding, Unopened, Does, Accepts, Decides}
use Rattle.learn.specs.Learn.{lesson_of}
use Rattle.demands.specs.History.{course_of, calls_in, emergency_calls_in, first_call, nothing, paper_from}
use Rattle.demands.specs.Demand2.{telling, Demand2}
use Rattle.demands.specs.Case as case
use Rattle.demands.specs.Useless.{step_again, walk_again, stop_again, stop_by, IsRefused, said, NotUseless, Walker, MeetsPredict, WalkRepeatsStep, WalkNotUseless}
use Rattle.demands.proofs.Carried.{Lawful, after_holds}
use Rattle.demands.proofs.Machine.{before}

-- ---- what is lent in the case

-- computed of a list that is written out
abbrev all_bytes : List ℕ → Bool
all_bytes [] = true
all_bytes (a ∷ s) = ltb a 256 && all_bytes s

all_bytes_lem : (s : List ℕ) → all_bytes s ≡ true → Bytes s
all_bytes_lem [] h i = omega arith
all_bytes_lem (a ∷ s) h zero = ltb-true a 256 (and-true_left (ltb a 256) (all_bytes s) h)
all_bytes_lem (a ∷ s) h (suc i) = all_bytes_lem s (and-true_right (ltb a 256) (all_bytes s) h) i

slice : (s : List ℕ) → all_bytes s && ltb (length s) (2 ^ 63) ≡ true → Slice s
slice s h =
    let short = ltb (length s) (2 ^ 63) in
    (all_bytes_lem s (and-true_left (all_bytes s) short h), ltb-true (length s) (2 ^ 63) (and-true_right (all_bytes s) short h))

-- 0, 5,000, 0.0, and 1, 5,000, 1.0
abbrev nth : ℕ → Lent
nth zero = record { sample = case.sample 0 0 0; profile = case.profile; targets = case.targets; out = case.out }
nth (suc n) = record { sample = case.sample 1 63 128; profile = case.profile; targets = case.targets; out = case.out }

-- an opening, the first sample, and the first or the second one
abbrev run : ℕ → List Call
run n = opening case.consist FiveSeconds ∷ sampling (nth 0) ∷ sampling (nth n) ∷ []

opening_lent : Slice case.consist
opening_lent = slice case.consist refl

lent : (n : ℕ) → Lends (sampling (nth n))
lent zero = (slice (nth 0).sample refl, slice (nth 0).profile refl, slice (nth 0).targets refl, slice (nth 0).out refl)
lent (suc n) = (slice (nth 1).sample refl, slice (nth 1).profile refl, slice (nth 1).targets refl, slice (nth 1).out refl)

-- ---- the case, computed

-- the session before the second sample, and the approach that this makes
abbrev standing : Session
standing = (call ours (call ours none_open (opening case.consist FiveSeconds)).state (sampling (nth 0))).state

abbrev second : Session → Approach
second x = approach x (sample_in (nth 1).sample) (nth 1).profile

abbrev decision : Decision
decision = record { emergency = false; time = 1; state = 0; penalty = true; cause = 1; stop = 5032 }

-- what is written to each sample: both records
abbrev first_out : List ℕ
first_out = 68 ∷ 0 ∷ 0 ∷ 0 ∷ 0 ∷ 0 ∷ 19 ∷ 136 ∷ 69 ∷ 0 ∷ 0 ∷ 0 ∷ 0 ∷ 0 ∷ 0 ∷ 0 ∷ []

abbrev second_out : List ℕ
second_out = 68 ∷ 0 ∷ 0 ∷ 1 ∷ 17 ∷ 0 ∷ 19 ∷ 168 ∷ 69 ∷ 0 ∷ 0 ∷ 1 ∷ 0 ∷ 0 ∷ 19 ∷ 168 ∷ []

-- the lines `0 0 0 0 5000` and `1 0 1 1 5032`; 9 for the first sample again; the stop, and that by the repeated step
record Case : Type 0 where
  honest : paper_from nothing (run 1) ≡ (Accepted, []) ∷ (Accepted, first_out) ∷ (Accepted, second_out) ∷ []
  again : paper_from nothing (run 0) ≡ (Accepted, []) ∷ (Accepted, first_out) ∷ (Refused WrongTime, case.out) ∷ []
  read : read_decision (take size second_out) ≡ (Accepted, decision)
  accepted : (call ours standing (sampling (nth 1))).told ≡ Accepted
  stop : (prediction_of (second standing) (speeds_in (nth 1).targets most)).stop ≡ 5032
  stop_again_lem : stop_by (second standing) ≡ 5048

computed : Case
unfolding computing step_again walk_again stop_again course_of lesson_of calls_in emergency_calls_in first_call paper_from
computed = record { honest = refl; again = refl; read = refl; accepted = refl; stop = refl; stop_again_lem = refl }

-- ---- a machine

module _ {S T : Type 0} (h : Holding S T) (w : Lawful h) (m : Machine S T) (does : Does h m) (u : Unopened h m.none) (demand_2 : Demand2 h m) where
  -- before the first sample, and after it
  abbrev opened : S
  opened = (call m m.none (opening case.consist FiveSeconds)).state

  abbrev one : Reply S T
  one = call m opened (sampling (nth 0))

  -- and what the sample after it is replied
  abbrev two : ℕ → Reply S T
  two n = call m one.state (sampling (nth n))

  replied : (n : ℕ) (rs : List (Verdict × List ℕ)) → paper_from nothing (run n) ≡ rs
      → ((call m m.none (opening case.consist FiveSeconds)).told, []) ∷ (one.told, one.out) ∷ ((two n).told, (two n).out) ∷ [] ≡ map (telling h) rs
  unfolding replies
  replied n rs e = demand_2.told (run n) (opening_lent, (lent 0, (lent n, tt))) ∙ ap (map (telling h)) e

  -- the reply to a call of the honest run, by its place
  honest_at : {A : Type 0} (f : T × List ℕ → A) (i : ℕ) →
      f (get_or (((call m m.none (opening case.consist FiveSeconds)).told, []) ∷ (one.told, one.out) ∷ ((two 1).told, (two 1).out) ∷ []) i (h.tell Accepted, []))
      ≡ f (get_or (map (telling h) ((Accepted, []) ∷ (Accepted, first_out) ∷ (Accepted, second_out) ∷ [])) i (h.tell Accepted, []))
  honest_at f i = ap (λ (l : List (T × List ℕ)). f (get_or l i (h.tell Accepted, []))) (replied 1 _ computed.honest)

  not_both : (r : Reply S T) → IsRefused h m r → Accepts h r → ⊥
  not_both r n a = let e = w.apart (Refused n.0) Accepted (sym n.1 ∙ a) in let z : ◌≡◌ {A = ℕ} 0 1 = cc in omega arith

  pub not_useless : NotUseless h m
  unfolding after
  not_useless =
      let one_before : List Call = opening case.consist FiveSeconds ∷ [] in
      let two_before : List Call = opening case.consist FiveSeconds ∷ sampling (nth 0) ∷ [] in
      let bs : LendsEach one_before = (opening_lent, tt) in
      let bs' : LendsEach two_before = (opening_lent, (lent 0, tt)) in
      let one_accepted : Accepts h one = honest_at (λ r. r.0) 1 in
      let two_accepted : Accepts h (two 1) = honest_at (λ r. r.0) 2 in
      let otherwise : said h m (two 1) ≡ said h m one → ⊥ =
      λ e.
      let z : ◌≡◌ {A = ℕ} 17 0 =
      sym (honest_at (λ r. get_or (drop 4 (take size r.1)) 0 0) 2) ∙ ap (λ (l : List ℕ). get_or l 0 0) e ∙ honest_at (λ r. get_or (drop 4 (take size r.1)) 0 0) 1 in
      omega arith in
      record {
        refuses_openings = λ k. not_both (call m m.none (opening case.consist FiveSeconds)) (k [] case.consist FiveSeconds tt opening_lent) (honest_at (λ r. r.0) 0);
        refuses_samples = λ k. not_both one (k one_before (nth 0) bs (lent 0)) one_accepted;
        constant = λ b k. otherwise (k two_before (nth 1) bs' (lent 1) two_accepted ∙ sym (k one_before (nth 0) bs (lent 0) one_accepted));
        session_untouched = λ k.
            not_both (two 0) (WrongTime, ap (λ (l : List (T × List ℕ)). (get_or l 2 (h.tell Accepted, [])).0) (replied 0 _ computed.again))
            (ap (λ (z : S). (call m z (sampling (nth 0))).told) (k one_before (nth 0) bs (lent 0)) ∙ one_accepted);
        output_untouched = λ k.
            let z : ◌≡◌ {A = ℕ} 68 0 = sym (honest_at (λ r. get_or r.1 0 0) 1) ∙ ap (λ (l : List ℕ). get_or l 0 0) (k one_before (nth 0) bs (lent 0)) in
            omega arith;
        repeats_step = λ k.
            let held = (after_holds h w m does m.none none_open u two_before bs').1 in
            let decides : Decides h false (two 1) decision = record { accepted = two_accepted; reads = honest_at (λ r. read_decision (take size r.1)) 2 ∙ computed.read } in
            let z : ◌≡◌ {A = ℕ} 5032 5048 =
            k two_before (nth 1) bs' (lent 1) decision decides ∙ ap (λ (x : Session). stop_by (second x)) held ∙ computed.stop_again_lem in
            omega arith;
        repeats_sample = λ k. otherwise (k one_before (nth 0) bs (lent 0) (nth 1) (lent 1) one_accepted two_accepted);
      }

-- ---- the walk by itself

-- lent; where it lies does not matter
abbrev lend : {A : Type 0} → A → Bor A
lend a = record { ref_ptr = (0, 0); now = a }

walk_repeats_step : (w : Walker) → MeetsPredict w → WalkRepeatsStep w → ⊥
unfolding prediction_of
walk_repeats_step w meets k =
    let l = nth 1 in
    let m = sample_in l.sample in
    let x = second standing in
    let admitted = ready standing l.sample l.profile l.targets (before standing l computed.accepted) in
    let asked = walkable x.consist (brake_after standing m) m l.profile (predictable standing m l.profile admitted) in
    let curve = penalty_curve x.consist x.a x.b in
    let speeds = speeds_in l.targets most in
    let given : ArgsD signature ([], tt) = (
      x.consist,
      (curve, (record { track = lend x.track; totals = lend (totals_of x.track); summed = refl }, (x.head, (x.speed, (speeds, tt))))),
    ) in
    let found = ap (λ (f : Prediction). f.stop) (meets ([], tt) given given asked) in
    let z : ◌≡◌ {A = ℕ} 5032 5048 =
    sym computed.stop ∙ sym found ∙ k x.consist curve x.track x.head x.speed speeds asked ∙ computed.stop_again_lem in
    omega arith

pub walk_not_useless : WalkNotUseless
walk_not_useless = record { meets = λ κs a x h. refl; repeats_step = walk_repeats_step }
