-- The sessions of the calls' definitions hold what the paper says of the history, call by call. Assumes nothing.
use mathlib.Core.Path.{◌≡◌, refl, sym, ap, subst, ◌∙◌}
use mathlib.Core.Bool.{true, false, not}
use mathlib.Core.List.{List, [], ◌∷◌, ◌++◌}
use Prim.Native.Nat.{ℕ, zero, suc, ◌<◌}
use native.Mathlib.Omega.{arith}
use borrow.Author.Tests.{ne_eqb}
use Rattle.refusal.specs.Lowest.{lowest}
use Rattle.refusal.specs.Steps.{kept}
use Rattle.refusal.specs.Written.{written}
use Rattle.refusal.specs.Verdict.{Verdict, Accepted, Refused}
use Rattle.refusal.proofs.Order.{passed}
use Rattle.consist.specs.Consist.{consist_in, read_rules, read_consist, answer}
use Rattle.sample.specs.declared.Sample.{Sample}
use Rattle.decision.specs.Decision.{both_bytes}
use Rattle.judge.specs.Judge.{standing}
use Rattle.judge.specs.Emergency.{emergency_stop, emergency_call_of}
use Rattle.prediction.specs.Prediction.{behind}
use Rattle.update.specs.Rules.{update_of}
use Rattle.admission.specs.Table.{wrong_time}
use Rattle.brake.specs.declared.Choice.{Choice}
use Rattle.learn.specs.Suffices.{Suffices}
use Rattle.learn.proofs.Suffices.{suffices}
use Rattle.session.specs.declared.Session.{Session}
use Rattle.session.specs.Session.{Answer, is_open}
use Rattle.session.specs.Open.{open_of, opened_by}
use Rattle.sampling.specs.Sample.{sample_in, prediction, cause_after, emergency_after, decision_of, emergency_decision_of, rules}
use Rattle.sampling.specs.Laws.{Lent}
use Rattle.sampling.proofs.Laws.{standing_stays}
use Rattle.demands.specs.Machine.{Call, opening, sampling, Reply, call, ours}
use Rattle.demands.specs.History.{Begun, Course, course_of, shown_to, calls_in, first_call, cause_in, emergency_at, emergency_calls_in, emergency_in, stop_at, decision_at, wrong_time_after, rules_at, Standing, nothing, since, verdict_at, next, out_at, session_at}
use Rattle.demands.specs.Demand2.{CauseStays}
use Rattle.demands.proofs.Carried.{accepted_open, sampled, sampled_is, none_refuses}

-- ---- the first call of a history

-- a later call counts where there is none before it
first_of_both : (ns : List ℕ) (n : ℕ) → first_call (ns ++ n ∷ []) ≡ standing (first_call ns) n
unfolding first_call standing
first_of_both [] zero = refl
first_of_both [] (suc n) = standing_stays (suc n) 0 (omega arith)
first_of_both (zero ∷ ns) n = first_of_both ns n
first_of_both (suc k ∷ ns) n = let some : suc k ≡ 0 → ⊥ = λ e. omega arith in rw (ne_eqb (suc k) 0 some) (sym (standing_stays (suc k) n (omega arith)))

-- and so, once there is one, none
first_stays : (ns : List ℕ) (n first : ℕ) → 0 < first → first_call ns ≡ first → first_call (ns ++ n ∷ []) ≡ first
first_stays ns n first h e = first_of_both ns n ∙ standing_stays (first_call ns) n (omega arith) ∙ e

pub cause_stays : CauseStays
unfolding CauseStays calls_in emergency_calls_in
cause_stays e c h [] s = refl
cause_stays false c h (l ∷ later) s = first_stays (calls_in c (later ++ h)) _ (cause_in c h) s (cause_stays false c h later s)
cause_stays true c h (l ∷ later) s = first_stays (emergency_calls_in c (later ++ h)) _ (emergency_in c h) s (cause_stays true c h later s)

-- ---- one call of the definition

-- a session that stands is open
abbrev pub Open : Standing → Type 0
Open nothing = Unit {0}
Open (since c h) = is_open (session_at (since c h)) ≡ true

-- a session that these bytes and this choice open
abbrev begun : List ℕ → Choice → Begun
begun s choice = record { consist = consist_in s; choice = choice }

opened_is : (st : Standing) (s : List ℕ) (choice : Choice) (v : Verdict) →
    opened_by (session_at st) (answer v (consist_in s)) choice ≡ record { session = session_at (kept v (since (begun s choice) []) st); verdict = v }
unfolding course_of calls_in emergency_calls_in first_call
opened_is st s choice Accepted = refl
opened_is st s choice (Refused r) = refl

time_is : (c : Begun) (h : List Lent) (m : Sample) → wrong_time (session_at (since c h)).brake m ≡ wrong_time_after h m
unfolding wrong_time course_of update_of
time_is c [] m = refl
time_is c (l ∷ h) m = refl

module _ (c : Begun) (h : List Lent) (l : Lent) where
  abbrev x : Session
  x = session_at (since c h)

  abbrev m : Sample
  m = sample_in l.sample

  cause_is : cause_after x m l.profile l.targets ≡ cause_in c (l ∷ h)
  unfolding course_of calls_in cause_after
  cause_is = sym (first_of_both (calls_in c h) _)

  -- what is called for, from the sample that calls the penalty on
  emergency_is : emergency_after x m l.profile l.targets ≡ emergency_in c (l ∷ h)
  unfolding course_of emergency_calls_in cause_after emergency_after
  emergency_is =
      ap (λ (n : ℕ). standing (emergency_in c h) (behind n (emergency_call_of (emergency_at c h l) l.targets))) cause_is
      ∙ sym (first_of_both (emergency_calls_in c h) _)

  pub decision_is : decision_of x m l.profile l.targets ≡ decision_at false c h l
  unfolding course_of
  decision_is = rw cause_is

  emergency_stop_is : (prediction x m l.profile l.targets).emergency_stop ≡ stop_at true c h l
  unfolding course_of cause_after
  emergency_stop_is = ap (λ (n : ℕ). behind n (emergency_stop (emergency_at c h l))) cause_is

  pub emergency_decision_is : emergency_decision_of x m l.profile l.targets ≡ decision_at true c h l
  unfolding course_of
  emergency_decision_is = rw (emergency_is, emergency_stop_is)

  verdict_is : is_open x ≡ true → lowest (rules x l.sample l.profile l.targets l.out) ≡ lowest (rules_at c h l)
  unfolding course_of
  verdict_is o = passed _ _ _ (ap not o) ∙ rw (time_is c h m)

  answer_is : (v : Verdict) →
      sampled x l v ≡ record { told = v; state = session_at (kept v (since c (l ∷ h)) (since c h)); out = (written v (both_bytes (decision_at false c h l) (decision_at true c h l)) l.out).1 }
  unfolding course_of Suffices
  answer_is Accepted =
      let k : Course = course_of c h in
      rw (cause_is, emergency_is, emergency_stop_is, suffices (shown_to k m) k.learning)
  answer_is (Refused r) = refl

pub reply_is : (st : Standing) → Open st → (k : Call) → call ours (session_at st) k ≡ record { told = verdict_at st k; state = session_at (next st k); out = out_at st k }
unfolding open_of read_consist
reply_is st o (opening s choice) =
    ap {B = Reply Session Verdict} (λ (a : Answer). record { told = a.verdict; state = a.session; out = [] }) (opened_is st s choice (lowest (read_rules s)))
reply_is nothing o (sampling l) = none_refuses l
reply_is (since c h) o (sampling l) =
    sampled_is (session_at (since c h)) l (lowest (rules_at c h l)) (verdict_is c h l o) ∙ answer_is c h l (lowest (rules_at c h l))

-- what stands after a call is open
settles : (v : Verdict) (st : Standing) (c : Begun) (h : List Lent) → Open st → (v ≡ Accepted → is_open (session_at (kept v (since c h) st)) ≡ true)
    → Open (kept v (since c h) st)
settles Accepted st c h o f = f refl
settles (Refused r) st c h o f = o

stays : (st : Standing) → Open st → (k : Call) → verdict_at st k ≡ Accepted → is_open (session_at (next st k)) ≡ true
stays st o k = subst (λ (r : Reply Session Verdict). r.told ≡ Accepted → is_open r.state ≡ true) (reply_is st o k) (accepted_open (session_at st) k)

pub next_open : (st : Standing) → Open st → (k : Call) → Open (next st k)
next_open st o (opening s choice) = settles (lowest (read_rules s)) st (begun s choice) [] o (stays st o (opening s choice))
next_open nothing o (sampling l) = tt
next_open (since c h) o (sampling l) = settles (lowest (rules_at c h l)) (since c h) c (l ∷ h) o (stays (since c h) o (sampling l))
