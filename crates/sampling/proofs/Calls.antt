-- What a sample call answers, and what it leaves in the session and the lent bytes. Assumes nothing.
use mathlib.Core.Path.{◌≡◌, refl, sym, ap, ap₂, ◌∙◌}
use mathlib.Core.Bool.{false}
use mathlib.Core.List.{List}
use Prim.Native.Nat.{ℕ}
use Rattle.refusal.specs.Lowest.{lowest}
use Rattle.refusal.specs.Steps.{kept}
use Rattle.refusal.specs.Written.{written}
use Rattle.refusal.specs.declared.Refusal.{Refusal}
use Rattle.refusal.specs.Verdict.{Verdict, Accepted, Refused}
use Rattle.refusal.proofs.Exactly.{written_verdict}
use Rattle.refusal.proofs.Order.{passed, append_given, append_passed}
use Rattle.decision.specs.Decision as decision
use Rattle.session.specs.declared.Session.{Session}
use Rattle.session.specs.Session.{Answer, answer, refused_with}
use Rattle.sampling.specs.Sample.{sample_in, rules, decision_of, emergency_decision_of, decisions_of, session_after, sample_call}
use Rattle.sampling.specs.Steps.{rules_before}

module _ (x : Session) (s p t out : List ℕ) where
  -- what a verdict makes of the session
  abbrev moved : Verdict → Answer
  moved v = answer (kept v (session_after x (sample_in s) p t) x) v

  -- the call by its verdict
  pub answered : (v : Verdict) → lowest (rules x s p t out) ≡ v
      → sample_call x s p t out ≡ (moved v, (written v (decisions_of x (sample_in s) p t) out).1)
  unfolding sample_call
  answered v h = ap (λ (w : Verdict). (moved w, (written w (decisions_of x (sample_in s) p t) out).1)) h

  pub call_before : (r : Refusal) → lowest (rules_before x s p t) ≡ Refused r → sample_call x s p t out ≡ (refused_with x r, out)
  call_before r h = answered (Refused r) (append_given (rules_before x s p t) _ r tt h)

  -- past what is judged before the walk
  module _ (h : lowest (rules_before x s p t) ≡ Accepted) where
    -- what the writer of two decisions in range says is handed on
    pub call_written : decision.out_of_range (decision_of x (sample_in s) p t) ≡ false → decision.out_of_range (emergency_decision_of x (sample_in s) p t) ≡ false
        → (v : Verdict) (last : List ℕ) → (v, last) ≡ decision.write_both (decision_of x (sample_in s) p t) (emergency_decision_of x (sample_in s) p t) out
        → sample_call x s p t out ≡ (moved v, last)
    unfolding decision.write_both
    call_written fine fine' v last w =
        let both = decisions_of x (sample_in s) p t in
        let e : decision.write_both (decision_of x (sample_in s) p t) (emergency_decision_of x (sample_in s) p t) out ≡ written (lowest (rules x s p t out)) both out =
        ap (λ (u : Verdict). written u both out) (passed _ _ _ fine ∙ passed _ _ _ fine' ∙ sym (append_passed (rules_before x s p t) _ h)) in
        let found = w ∙ e in
        let a : v ≡ lowest (rules x s p t out) = (λ i. (found i).0) ∙ written_verdict (lowest (rules x s p t out)) both out in
        answered _ refl ∙ ap₂ (λ (u : Verdict) (l : List ℕ). (moved u, l)) (sym a) (sym (λ i. (found i).1))
