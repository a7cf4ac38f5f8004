-- What a machine that does what is defined tells, holds and decides: demands 2 and 3. Assumes nothing.
use mathlib.Core.Path.{◌≡◌, sym, ap, ◌∙◌, refl, ap₂, subst, subst₂}
use mathlib.Core.Bool.{Bool, false, not, true}
use mathlib.Core.List.{List, [], ◌∷◌, map}
use Prim.Native.Nat.{ℕ, zero, suc, ◌≤◌, ◌<◌}
use lib.Dec.{eqb}
use native.Mathlib.Omega.{arith}
use borrow.Author.Tests.{ne_eqb}
use Rattle.refusal.specs.Lowest.{lowest}
use Rattle.refusal.specs.Written.{written}
use Rattle.refusal.specs.Verdict.{Verdict, Accepted, Refused}
use Rattle.refusal.specs.Steps.{kept}
use Rattle.refusal.proofs.Order.{passed, append_accepted, append_passed}
use Rattle.consist.specs.Consist.{consist_in, read_rules}
use Rattle.targets.specs.Targets.{most, speeds_in}
use Rattle.decision.specs.declared.Decision.{Decision}
use Rattle.decision.specs.Decision.{read_decision, write_both}
use Rattle.decision.specs.RoundTrip.{BothReadBack}
use Rattle.decision.proofs.RoundTrip.{both_read_back}
use Rattle.judge.specs.Judge.{standing}
use Rattle.judge.specs.Approach.{prediction_of, call_of}
use Rattle.laws.specs.Approaches.{Compared}
use Rattle.laws.proofs.Approaches.{compared}
use Rattle.prediction.specs.Steps.{Ready}
use Rattle.session.specs.declared.Session.{Session}
use Rattle.sampling.specs.Sample.{sample_in, decision_of, emergency_decision_of, decisions_of, sample_call, approach, cause_after}
use Rattle.sampling.specs.Steps.{rules_before}
use Rattle.sampling.specs.Laws.{Lent, after_samples, cause_held, CauseStands}
use Rattle.session.proofs.Opened.{opened}
use Rattle.sampling.proofs.Admitted.{in_range, emergency_in_range, ready}
use Rattle.sampling.proofs.Laws.{standing_stays, cause_stands}
use Rattle.demands.specs.Machine.{sampling, call, ours, record_of, Decides, Call, opening, Lends, LendsEach, Reply, Machine, replies, after, Holding, Holds, Unopened, carry, Does, Accepts}
use Rattle.demands.specs.Program.{by_value}
use Rattle.demands.specs.History.{Begun, decision_at, rules_at, Standing, nothing, since, verdict_at, next, out_at, session_at, standing_after, paper_from}
use Rattle.demands.specs.Demand2.{telling, state_at, NotOpenedAnew, Demand2}
use Rattle.demands.specs.Demand3.{Demand3}
use Rattle.demands.proofs.Carried.{accepted_open, refused_same, sampled, sampled_is, Lawful, next_holds, decides}
use Rattle.demands.proofs.History.{Open, decision_is, reply_is, next_open, emergency_decision_is}

-- ---- what an accepted call of the definition decides

module _ (x : Session) (l : Lent) where
  -- the call's two decisions
  abbrev pub decision_by : Bool → Decision
  decision_by false = decision_of x (sample_in l.sample) l.profile l.targets
  decision_by true = emergency_decision_of x (sample_in l.sample) l.profile l.targets

  module _ (h : (call ours x (sampling l)).told ≡ Accepted) where
    pub before : lowest (rules_before x l.sample l.profile l.targets) ≡ Accepted
    unfolding sample_call
    before = append_accepted (rules_before x l.sample l.profile l.targets) _ h

    -- the writer accepts them
    writes : write_both (decision_by false) (decision_by true) l.out ≡ (Accepted, (call ours x (sampling l)).out)
    unfolding write_both sample_call
    writes =
        let v = sym (append_passed (rules_before x l.sample l.profile l.targets) _ before) ∙ h in
        let fine = in_range x l.sample l.profile l.targets before in
        let fine' = emergency_in_range x l.sample l.profile l.targets before in
        let both = decisions_of x (sample_in l.sample) l.profile l.targets in
        ap (λ (u : Verdict). written u both l.out) (passed _ _ _ fine ∙ passed _ _ _ fine' ∙ v)
        ∙ sym (ap {B = Verdict × List ℕ} (λ (u : Verdict). (Accepted, (written u both l.out).1)) h)

    pub made : call ours x (sampling l) ≡ sampled x l Accepted
    unfolding sample_call
    made = sampled_is x l Accepted h

    -- and what it leaves reads back
    read_back : (e : Bool) → read_decision (record_of e (write_both (decision_by false) (decision_by true) l.out).1) ≡ (Accepted, decision_by e)
    unfolding BothReadBack
    read_back false = (both_read_back (decision_by false) (decision_by true) l.out (ap (λ (r : Verdict × List ℕ). r.0) writes)).0
    read_back true = (both_read_back (decision_by false) (decision_by true) l.out (ap (λ (r : Verdict × List ℕ). r.0) writes)).1

    pub decided : (e : Bool) → Decides by_value e (call ours x (sampling l)) (decision_by e)
    decided e = record {
      accepted = h;
      reads = sym (ap (λ (r : Verdict × List ℕ). read_decision (record_of e r.1)) writes) ∙ read_back e;
    }

    pub ready_of : Ready x.consist x.brake (sample_in l.sample) l.profile
    ready_of = ready x l.sample l.profile l.targets before

  -- "the penalty bit is 1 exactly when the cause is not 0", and the session holds the cause
  bit_of : (e : Bool) → (decision_by e).penalty ≡ not (eqb (decision_by e).cause 0)
  bit_of false = refl
  bit_of true = refl

  held_of : (e : Bool) → cause_held e (sampled x l Accepted).state ≡ (decision_by e).cause
  held_of false = refl
  held_of true = refl

module _ (x : Session) (l : Lent) (e : Bool) (d : Decision) (h : Decides by_value e (call ours x (sampling l)) d) where
  pub is_decided : d ≡ decision_by x l e
  is_decided = ap (λ (a : Verdict × Decision). a.1) (sym h.reads ∙ (decided x l h.accepted e).reads)

  cause_held_lem : cause_held e (call ours x (sampling l)).state ≡ d.cause
  cause_held_lem =
      ap (λ (r : Reply Session Verdict). cause_held e r.state) (made x l h.accepted) ∙ held_of x l e ∙ sym (ap (λ (f : Decision). f.cause) is_decided)

  penalty_of : d.penalty ≡ not (eqb d.cause 0)
  penalty_of =
      ap (λ (f : Decision). f.penalty) is_decided ∙ bit_of x l e ∙ sym (ap (λ (f : Decision). not (eqb f.cause 0)) is_decided)

pub not-zero : (n : ℕ) → not (eqb n 0) ≡ true → 0 < n
not-zero zero h = absurd (let z : ◌≡◌ {A = ℕ} 0 1 = cc in omega arith)
not-zero (suc n) h = omega arith

pub is_not_zero : (n : ℕ) → 0 < n → not (eqb n 0) ≡ true
is_not_zero n h = let k : n ≡ 0 → ⊥ = λ e. omega arith in ap not (ne_eqb n 0 k)

module _ {S T : Type 0} (h : Holding S T) (w : Lawful h) (m : Machine S T) (does : Does h m) (u : Unopened h m.none) where
  -- ---- the state that holds what stands

  abbrev at : Standing → S
  at st = state_at h m.none st

  holds : (st : Standing) → Open st → Holds h (at st) (session_at st)
  holds nothing o = u
  holds (since c l) o = (w.fits m.none (session_at (since c l)) u.0 o, w.reads m.none (session_at (since c l)) o)

  settled : (v : Verdict) (st : Standing) (c : Begun) (l : List Lent) →
      kept v (h.put (at st) (session_at (kept v (since c l) st))) (at st) ≡ at (kept v (since c l) st)
  settled Accepted nothing c l = refl
  settled Accepted (since b k) c l = w.again m.none (session_at (since b k)) (session_at (since c l))
  settled (Refused r) st c l = refl

  left : (st : Standing) (k : Call) → kept (verdict_at st k) (h.put (at st) (session_at (next st k))) (at st) ≡ at (next st k)
  left st (opening s choice) = settled (lowest (read_rules s)) st (record { consist = consist_in s; choice = choice }) []
  left nothing (sampling l) = refl
  left (since c past) (sampling l) = settled (lowest (rules_at c past l)) (since c past) c (l ∷ past)

  abbrev told_at : Standing → Call → S → Reply S T
  told_at st k z = record { told = h.tell (verdict_at st k); state = z; out = out_at st k }

  call_is : (st : Standing) → Open st → (k : Call) → Lends k → call m (at st) k ≡ told_at st k (at (next st k))
  call_is st o k b = does (at st) (session_at st) (holds st o) k b ∙ ap (carry h (at st)) (reply_is st o k) ∙ ap (told_at st k) (left st k)

  -- ---- any list of calls

  run_is : (st : Standing) → Open st → (ks : List Call) → LendsEach ks →
      let last = standing_after st ks in
      (replies m (at st) ks ≡ map (telling h) (paper_from st ks)) × (after m (at st) ks ≡ at last) × Open last
  unfolding replies paper_from after standing_after
  run_is st o [] b = (refl, refl, o)
  run_is st o (k ∷ ks) b =
      let e = call_is st o k b.0 in
      let rest = run_is (next st k) (next_open st o k) ks b.1 in
      let told = ap {B = T × List ℕ} (λ (r : Reply S T). (r.told, r.out)) e in
      (ap₂ ◌∷◌ told (ap (λ (r : Reply S T). replies m r.state ks) e ∙ rest.0), ap (λ (r : Reply S T). after m r.state ks) e ∙ rest.1, rest.2)

  read_at : (e : Bool) (c : Begun) (past : List Lent) → Open (since c past) → (l : Lent) → Lends (sampling l) →
      let r = call m (at (since c past)) (sampling l) in
      Accepts h r → Decides h e r (decision_at e c past l)
  read_at e c past o l b =
      let x = session_at (since c past) in
      subst (λ (r : Reply S T). Accepts h r → Decides h e r (decision_at e c past l)) (sym (does (at (since c past)) x (holds (since c past) o) (sampling l) b)) (λ a.
      record { accepted = a; reads = (subst (Decides by_value e (call ours x (sampling l))) (is e) (decided x l (w.apart _ Accepted a) e)).reads })
    where
      is : (e : Bool) → decision_by (session_at (since c past)) l e ≡ decision_at e c past l
      is false = decision_is c past l
      is true = emergency_decision_is c past l

  -- ---- calls that no opening is accepted among

  module _ (e : Bool) where
    call_stands : (z : S) (x : Session) → Holds h z x → (k : Call) → Lends k → (ks : List Call) → NotOpenedAnew h m z (k ∷ ks) → 0 < cause_held e x
        → (cause_held e (call ours x k).state ≡ cause_held e x) × NotOpenedAnew h m (call m z k).state ks
    unfolding CauseStands after_samples
    call_stands z x o (opening s choice) b ks n some = (by (call ours x (opening s choice)).told refl, n.1)
      where
        by : (v : Verdict) → (call ours x (opening s choice)).told ≡ v → cause_held e (call ours x (opening s choice)).state ≡ cause_held e x
        by Accepted g = absurd (n.0 (ap (λ (r : Reply S T). r.told) (does z x o (opening s choice) b) ∙ ap h.tell g))
        by (Refused r) g = ap (cause_held e) (refused_same x (opening s choice) r g)
    call_stands z x o (sampling l) b ks n some = (cause_stands e x (l ∷ []) some, n)

    calls_stand : (z : S) (x : Session) → Holds h z x → (ks : List Call) → LendsEach ks → NotOpenedAnew h m z ks → 0 < cause_held e x
        → (y : Session) × Holds h (after m z ks) y × (cause_held e y ≡ cause_held e x)
    unfolding after
    calls_stand z x o [] b n some = (x, o, refl)
    calls_stand z x o (k ∷ ks) b n some =
        let f = call_stands z x o k b.0 ks n some in
        let rest =
        calls_stand (call m z k).state (call ours x k).state (next_holds h w m does z x o k b.0) ks b.1 f.1
        (subst (λ (c : ℕ). 0 < c) (sym f.0) some) in
        (rest.0, rest.1, rest.2 ∙ f.0)

  pub demand_2 : Demand2 h m
  unfolding CauseStands after_samples
  demand_2 = record {
    told = λ ks b. (run_is nothing tt ks b).0;
    history_held = λ ks b. (run_is nothing tt ks b).1;
    decision_read = λ e ks l b b' c past k.
        let is = run_is nothing tt ks b in
        subst (λ (z : S). let r = call m z (sampling l) in Accepts h r → Decides h e r (decision_at e c past l)) (sym (is.1 ∙ ap at k))
        (read_at e c past (subst Open k is.2) l b');
    stands = λ e z l l' ks d d' f b bs b' first commanded n second.
        let x = h.session z in
        let o : Holds h z x = (f, refl) in
        let one = decides h w m does z x o l b e d first in
        let some : 0 < d.cause = not-zero d.cause (sym (penalty_of x l e d one) ∙ commanded) in
        let held = cause_held_lem x l e d one in
        let later =
        calls_stand e (call m z (sampling l)).state (call ours x (sampling l)).state (next_holds h w m does z x o (sampling l) b) ks bs n
        (subst (λ (c : ℕ). 0 < c) (sym held) some) in
        let y = later.0 in
        let two = decides h w m does (after m (call m z (sampling l)).state ks) y later.1 l' b' e d' second in
        let stood : cause_held e y ≡ d.cause = later.2 ∙ held in
        let now : d'.cause ≡ d.cause = sym (cause_held_lem y l' e d' two) ∙ cause_stands e y (l' ∷ []) (omega arith) ∙ stood in
        (penalty_of y l' e d' two ∙ is_not_zero d'.cause (omega arith), now);
    penalty_first = λ z l d d' f b first second commanded.
        let x = h.session z in
        let o : Holds h z x = (f, refl) in
        let one = decides h w m does z x o l b false d first in
        let two = decides h w m does z x o l b true d' second in
        let stands = opened (call ours x (sampling l)).state (accepted_open x (sampling l) one.accepted) in
        let some : 0 < d'.cause = not-zero d'.cause (sym (penalty_of x l true d' two) ∙ commanded) in
        let stood = stands.behind (subst (λ (n : ℕ). 0 < n) (sym (cause_held_lem x l true d' two)) some) in
        penalty_of x l false d one ∙ is_not_zero d.cause (subst (λ (n : ℕ). 0 < n) (cause_held_lem x l false d one) stood);
  }

-- ---- demand 3, from the comparison of the approaches

-- the cause after a call is the call's own where none stood, and is some where one is called
pub own_call : (stood call : ℕ) → stood ≡ 0 → 0 < standing stood call → 0 < call
unfolding standing
own_call stood call e h = subst (λ (n : ℕ). 0 < standing n call) e h

pub some_cause : (stood call : ℕ) → 0 < call → 0 < standing stood call
unfolding standing
some_cause zero call h = h
some_cause (suc n) call h = let some : 0 < suc n = omega arith in subst (λ (k : ℕ). 0 < k) (sym (standing_stays (suc n) call some)) some

pub admitted : (x : Session) (l : Lent) (e : Bool) (d : Decision) → Decides by_value e (call ours x (sampling l)) d
    → Ready x.consist x.brake (sample_in l.sample) l.profile
admitted x l e d h = ready_of x l h.accepted

pub demand_3 : {S T : Type 0} (h : Holding S T) → Lawful h → (m m' : Machine S T) → Does h m → Does h m' → Demand3 h m m'
unfolding Compared cause_after
demand_3 h w m m' does does' z z' x y l l' d d' o o' b b' e e' worse targets =
    let first = decides h w m does z x o l b false d e in
    let second = decides h w m' does' z' y o' l' b' false d' e' in
    let one = approach x (sample_in l.sample) l.profile in
    let other = approach y (sample_in l'.sample) l'.profile in
    let ready = admitted x l false d first in
    let cautious = compared one other ready.consist (admitted y l' false d' second).consist ready.head worse in
    let is = is_decided x l false d first in
    let is' = is_decided y l' false d' second in (
      cautious,
      subst₂ ◌≤◌ (sym (ap (λ (c : Decision). c.stop) is' ∙ ap (λ (t : List ℕ). (prediction_of other (speeds_in t most)).stop) (sym targets)))
          (sym (ap (λ (c : Decision). c.stop) is)) (cautious.stop (speeds_in l.targets most)),
      λ none commanded.
          let cause = not-zero _ (sym (ap (λ (c : Decision). c.penalty) is') ∙ commanded) in
          let called = subst (λ (t : List ℕ). 0 < call_of other t) (sym targets) (own_call y.cause _ none cause) in
          ap (λ (c : Decision). c.penalty) is ∙ is_not_zero _ (some_cause x.cause _ (cautious.called l.targets called)),
    )
