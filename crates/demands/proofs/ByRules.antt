-- A sample call with the session in lent bytes, by its rules: the number is that of the lowest, and what it leaves follows from it. Assumes nothing.
use mathlib.Core.Path.{◌≡◌, refl, sym, ap, ◌∙◌}
use mathlib.Core.Bool.{Bool, true, false, not}
use mathlib.Core.List.{List, []}
use Prim.Native.Nat.{ℕ}
use Rattle.refusal.specs.Lowest.{lowest}
use Rattle.refusal.specs.Number.{number_of_verdict}
use Rattle.refusal.specs.Steps.{kept}
use Rattle.refusal.specs.Written.{written}
use Rattle.refusal.specs.declared.Refusal.TheVariants.{NoSession}
use Rattle.refusal.specs.Verdict.{Verdict, Accepted, Refused}
use Rattle.refusal.proofs.Order.{given, passed}
use Rattle.refusal.proofs.Numbers.{one_first}
use Rattle.session.specs.declared.Session.{Session}
use Rattle.sampling.specs.Sample.{sample_in, not_open, rules, session_after, decisions_of, sample_call}
use Rattle.held.specs.Held.{record_at, session_in, no_session, answer, read_session}
use Rattle.held.proofs.Answers.{held_open}
use Rattle.lent.specs.Lent.{buffer_of, sample_rules, Sampled, sample_bytes}
use Rattle.lent.proofs.Calls.{one_held, by_read}

none_held : (b : List ℕ) → no_session b ≡ true → read_session b ≡ answer (Refused NoSession) (session_in b)
unfolding read_session
none_held b h = ap (λ (v : Verdict). answer v (session_in b)) (given (no_session b) NoSession [] tt h)

written-kept : (v : Verdict) (old new : Session) (b : List ℕ) → written v (buffer_of (kept v new old)) b ≡ written v (buffer_of new) b
written-kept Accepted old new b = refl
written-kept (Refused r) old new b = refl

module _ (b s p t out : List ℕ) where
  abbrev x : Session
  x = session_in (record_at b)

  -- the number, the session's bytes and the decisions', by the verdict
  abbrev pub leaves : Verdict → Sampled
  leaves v =
      (number_of_verdict v, (written v (buffer_of (session_after x (sample_in s) p t)) b).1, (written v (decisions_of x (sample_in s) p t) out).1)

  -- where an open session's record stands, the first line of the session's own table does not apply: its lowest is that of the bytes
  same_lowest : no_session (record_at b) ≡ false → lowest (rules x s p t out) ≡ lowest (sample_rules b s p t out)
  same_lowest e = passed (not_open x) NoSession _ (ap not (held_open (record_at b) e).1) ∙ sym (passed (no_session (record_at b)) NoSession _ e)

  pub by_rules : sample_bytes b s p t out ≡ leaves (lowest (sample_rules b s p t out))
  unfolding sample_bytes sample_call
  by_rules = by (no_session (record_at b)) refl
    where
      by : (n : Bool) → no_session (record_at b) ≡ n → by_read b s p t out (read_session (record_at b)) ≡ leaves (lowest (sample_rules b s p t out))
      by true e = ap (by_read b s p t out) (none_held (record_at b) e) ∙ sym (ap leaves (one_first (no_session (record_at b)) _ e))
      by false e =
          let v = lowest (rules x s p t out) in
          ap (by_read b s p t out) (one_held (record_at b) e)
          ∙ ap (λ (w : Verdict × List ℕ). (number_of_verdict v, w.1, (leaves v).2)) (written-kept v x (session_after x (sample_in s) p t) b)
          ∙ ap leaves (same_lowest e)
