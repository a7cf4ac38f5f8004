-- A machine that does what is defined moves the session that its states hold as the definition does. Assumes nothing.
use mathlib.Core.Path.{◌≡◌, refl, sym, ap, subst, ◌∙◌}
use mathlib.Core.Bool.{Bool, true}
use mathlib.Core.List.{List, [], ◌∷◌}
use Rattle.refusal.specs.Lowest.{lowest}
use Rattle.refusal.specs.Steps.{kept}
use Rattle.refusal.specs.Written.{written}
use Rattle.refusal.specs.declared.Refusal.{Refusal}
use Rattle.refusal.specs.declared.Refusal.TheVariants.{NoSession}
use Rattle.refusal.specs.Verdict.{Verdict, Accepted, Refused}
use Rattle.refusal.proofs.Order.{given}
use Rattle.decision.specs.declared.Decision.{Decision}
use Rattle.session.specs.declared.Session.{Session}
use Rattle.session.specs.Session.{is_open, none_open}
use Rattle.sampling.specs.Sample.{sample_in, session_after, decisions_of, rules, sample_call}
use Rattle.sampling.specs.Laws.{Lent, OpensOpen, StaysOpen, OpenUnchanged, SampleUnchanged}
use Rattle.sampling.proofs.Laws.{opens_open, stays_open, open_unchanged, sample_unchanged}
use Rattle.demands.specs.Machine.{Call, opening, sampling, Lends, LendsEach, Reply, Machine, call, after, ours, Holding, Holds, Does, Decides}
use Rattle.demands.specs.Program.{by_value}

-- ---- the calls' definitions

-- what is accepted hands back an open session, and what is refused the one that it had
pub accepted_open : (x : Session) (k : Call) → (call ours x k).told ≡ Accepted → is_open (call ours x k).state ≡ true
unfolding OpensOpen StaysOpen
accepted_open x (opening s choice) = opens_open x s choice
accepted_open x (sampling l) = stays_open x l.sample l.profile l.targets l.out

pub refused_same : (x : Session) (k : Call) (r : Refusal) → (call ours x k).told ≡ Refused r → (call ours x k).state ≡ x
unfolding OpenUnchanged SampleUnchanged
refused_same x (opening s choice) = open_unchanged x s choice
refused_same x (sampling l) = sample_unchanged x l.sample l.profile l.targets l.out

-- a sample call by its verdict
abbrev pub sampled : Session → Lent → Verdict → Reply Session Verdict
sampled x l v =
    let m = sample_in l.sample in
    let p = l.profile in
    let t = l.targets in
    record { told = v; state = kept v (session_after x m p t) x; out = (written v (decisions_of x m p t) l.out).1 }

pub sampled_is : (x : Session) (l : Lent) (v : Verdict) → lowest (rules x l.sample l.profile l.targets l.out) ≡ v
    → call ours x (sampling l) ≡ sampled x l v
unfolding sample_call
sampled_is x l v e = ap (sampled x l) e

-- 1: "a sample is offered and no session is open"
pub none_refuses : (l : Lent) → call ours none_open (sampling l) ≡ record { told = Refused NoSession; state = none_open; out = l.out }
unfolding is_open
none_refuses l = sampled_is none_open l (Refused NoSession) (given _ _ _ tt refl)

-- ---- what a holding has to be

-- an open session that is put in fits and is read again; what was put in before leaves no trace; verdicts are told apart
pub record Lawful {S T : Type 0} (h : Holding S T) : Type 0 where
  pub fits : (z : S) (x : Session) → h.Fits z → is_open x ≡ true → h.Fits (h.put z x)
  pub reads : (z : S) (x : Session) → is_open x ≡ true → h.session (h.put z x) ≡ x
  pub again : (z : S) (x y : Session) → h.put (h.put z x) y ≡ h.put z y
  pub apart : (v w : Verdict) → h.tell v ≡ h.tell w → v ≡ w

module _ {S T : Type 0} (h : Holding S T) (w : Lawful h) where
  left : (z : S) (x : Session) → Holds h z x → (v : Verdict) (y : Session) → (v ≡ Accepted → is_open y ≡ true) → ((r : Refusal) → v ≡ Refused r → y ≡ x)
      → Holds h (kept v (h.put z y) z) y
  left z x o Accepted y new same = (w.fits z y o.0 (new refl), w.reads z y (new refl))
  left z x o (Refused r) y new same = (o.0, o.1 ∙ sym (same r refl))

  module _ (m : Machine S T) (does : Does h m) where
    -- after a call, and after calls
    pub next_holds : (z : S) (x : Session) → Holds h z x → (k : Call) → Lends k → Holds h (call m z k).state (call ours x k).state
    next_holds z x o k b =
        let r = call ours x k in
        subst (λ (a : Reply S T). Holds h a.state r.state) (sym (does z x o k b)) (left z x o r.told r.state (accepted_open x k) (refused_same x k))

    pub after_holds : (z : S) (x : Session) → Holds h z x → (ks : List Call) → LendsEach ks → Holds h (after m z ks) (after ours x ks)
    unfolding after
    after_holds z x o [] b = o
    after_holds z x o (k ∷ ks) b = after_holds (call m z k).state (call ours x k).state (next_holds z x o k b.0) ks b.1

    -- it decides what the definition does
    pub decides : (z : S) (x : Session) → Holds h z x → (l : Lent) → Lends (sampling l) → (e : Bool) (d : Decision) → Decides h e (call m z (sampling l)) d
        → Decides by_value e (call ours x (sampling l)) d
    decides z x o l b e d k =
        let f = subst (λ (r : Reply S T). Decides h e r d) (does z x o (sampling l) b) k in
        record { accepted = w.apart _ Accepted f.accepted; reads = f.reads }
