-- Past the walk: what the writer says of the decisions is what the call says. Assumes nothing.
use mathlib.Core.Path.{◌≡◌, sym, ap, subst, ◌∙◌}
use mathlib.Core.List.{List}
use Prim.Native.Nat.{ℕ}
use Rattle.refusal.specs.Lowest.{lowest}
use Rattle.refusal.specs.Number.{told}
use Rattle.refusal.specs.Steps.{kept}
use Rattle.refusal.specs.declared.Refusal.{Refusal}
use Rattle.refusal.specs.Verdict.{Verdict, Accepted, Refused}
use Rattle.refusal.proofs.Numbers.{told_one}
use Rattle.sample.specs.declared.Sample.{Sample}
use Rattle.decision.specs.Decision.{write_both}
use Rattle.session.specs.declared.Session.{Session}
use Rattle.session.specs.Session.{answer}
use Rattle.sampling.specs.declared.After.{After}
use Rattle.sampling.specs.Sample.{sample_in, session_after, sample_call}
use Rattle.sampling.specs.Steps.{rules_before, after_of}
use Rattle.sampling.proofs.Admitted.{in_range, emergency_in_range}
use Rattle.sampling.proofs.Calls.{call_written}

module _ (x : Session) (s p t out : List ℕ) (before : lowest (rules_before x s p t) ≡ Accepted)
    {m : Sample} (is : sample_in s ≡ m) {next : After} (after : next ≡ after_of x m p t)
    (v : Verdict) (last : List ℕ) (w : told (v, last) ≡ told (write_both next.decision next.emergency out)) where
  -- what the call makes of the session, of the sample that the bytes are
  after_is : next ≡ after_of x (sample_in s) p t
  after_is = subst (λ (y : Sample). next ≡ after_of x y p t) (sym is) after

  call_is : sample_call x s p t out ≡ (answer (kept v (session_after x (sample_in s) p t) x) v, last)
  call_is =
      call_written x s p t out before (in_range x s p t before) (emergency_in_range x s p t before) v last
      (told_one (v, last) (write_both next.decision next.emergency out) w ∙ ap (λ (y : After). write_both y.decision y.emergency out) after_is)

  pub written_refused : {r : Refusal} → v ≡ Refused r → (answer x (Refused r), last) ≡ sample_call x s p t out
  written_refused h = ap (λ (u : Verdict). (answer (kept u (session_after x (sample_in s) p t) x) u, last)) (sym h) ∙ sym call_is

  pub written_accepted : v ≡ Accepted → (answer next.session Accepted, last) ≡ sample_call x s p t out
  written_accepted h =
      ap (λ (y : After). (answer y.session Accepted, last)) after_is
      ∙ ap (λ (u : Verdict). (answer (kept u (session_after x (sample_in s) p t) x) u, last)) (sym h)
      ∙ sym call_is
