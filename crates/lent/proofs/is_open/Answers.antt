use Rattle.std.proofs.Common.{◌≡◌, Err, Ok, sym, ap, refl, arith, ◌∙◌, Bool, true, false, not, ℕ, List}
use mathlib.Core.Bool.{cond}
use Rattle.std.specs.Prelude.{Result}
use Rattle.std.specs.Result.{is_ok}
use Rattle.refusal.specs.Number.{number_of_verdict, answer_of}
use Rattle.refusal.specs.declared.Refusal.{Refusal}
use Rattle.refusal.specs.Verdict.{Verdict}
use Rattle.refusal.proofs.Exactly.{above_zero}
use Rattle.session.specs.declared.Session.{Session}
use Rattle.session.specs.Session.{Told, none_open}
use Rattle.held.specs.Held.{record_at, no_session, read_told}
use Rattle.lent.specs.Lent.{is_open_bytes}
use Rattle.lent.proofs.Calls.{none_number, one_number}
use Rattle.lent.proofs.is_open.Goals as goal

-- what is read with the number 0 is a session
ok_is : (r : Result Session Refusal) (x : Verdict × Session) (n : Bool) → read_told (answer_of none_open r) ≡ read_told x
    → number_of_verdict x.0 ≡ cond n 1 0 → is_ok r ≡ not n
ok_is (Ok y) x true h e = let z : 0 ≡ number_of_verdict x.0 = ap (λ (t : ℕ × Told). t.0) h in absurd (omega (arith, z, e))
ok_is (Ok y) x false h e = refl
ok_is (Err r) x true h e = refl
ok_is (Err r) x false h e =
    let z = ap (λ (t : ℕ × Told). t.0) h in absurd (omega (arith, z, e, above_zero r))

pub returns : goal.returns
unfolding is_open_bytes
returns c = by (no_session bytes) refl
  where
    bytes : List ℕ
    bytes = record_at c.args.session.now

    by : (n : Bool) → no_session bytes ≡ n → c.is_ok.result ≡ not (no_session bytes)
    by true e = c.is_ok.ensures.value ∙ ok_is _ _ true c.read_start.ensures (none_number bytes e) ∙ ap not (sym e)
    by false e = c.is_ok.ensures.value ∙ ok_is _ _ false c.read_start.ensures (one_number bytes e) ∙ ap not (sym e)
