use Rattle.std.proofs.Common.{◌≡◌, Err, Ok, sym, ap, refl, ◌∙◌, ℕ, List, [], ◌∷◌, ◌++◌, drop}
use Rattle.std.proofs.lemmas.Result.{err_from_is_err_and}
use borrow.Author.Tests.{ltb-false}
use Rattle.refusal.specs.Lowest.{Rule, lowest}
use Rattle.refusal.specs.Steps.{kept}
use Rattle.refusal.specs.Written.{no_room}
use Rattle.refusal.specs.declared.Refusal.TheVariants.{NoRoom}
use Rattle.refusal.specs.Verdict.{Verdict, Accepted}
use Rattle.refusal.proofs.Order.{given, last_passed, append_passed, append_given}
use Rattle.refusal.proofs.Steps.{on_unless, off_unless}
use Rattle.refusal.proofs.Numbers.{told_is}
use Rattle.decision.specs.declared.Decision.{Decision}
use Rattle.decision.specs.Decision.{decision_in, none, read_rules, read_decision}
use Rattle.tells.specs.Judged.{decision_numbers, numbers_of, decision_as_read}
use Rattle.tells.proofs.Told.{told_refused, told_accepted}
use Rattle.tells.proofs.put_decision.Goals as goal

abbrev room : List ℕ → List Rule
room numbers = (no_room decision_numbers numbers, NoRoom) ∷ []

pub returns-in_err-d : goal.returns-in_err-d
unfolding decision_as_read read_decision
returns-in_err-d c =
    let s = c.args.decision.now in
    let p = err_from_is_err_and c.from_residual.result c.from_residual.ensures.1 in
    let read = told_is none (read_decision s) _ (Err _) c.read.ensures c.in_err-d.was in
    rw (p.1, p.2) (told_refused (numbers_of (decision_in s)) c.args.numbers.now refl
    (append_given (read_rules s) (room c.args.numbers.now) _ tt (λ i. (read i).0)))

pub returns-in_default : goal.returns-in_default
unfolding decision_as_read read_decision no_room
returns-in_default c =
    let s = c.args.decision.now in
    let read = told_is none (read_decision s) _ (Ok _) c.read.ensures c.in_ok-d.was in
    told_refused (numbers_of (decision_in s)) c.args.numbers.now refl
    (append_passed (read_rules s) (room c.args.numbers.now) (λ i. (read i).0)
    ∙ given _ NoRoom [] tt (off_unless _ (sym c.in_default.is ∙ c.unless.ensures)))

pub put_numbers-requires : goal.put_numbers-requires
put_numbers-requires c = ltb-false _ _ (on_unless _ (sym c.in-Some.is ∙ c.unless.ensures))

pub returns : goal.returns
unfolding decision_as_read read_decision no_room
returns c =
    let s = c.args.decision.now in
    let numbers = c.args.numbers.now in
    let read = told_is none (read_decision s) _ (Ok _) c.read.ensures c.in_ok-d.was in
    let right : lowest (read_rules s) ≡ Accepted = λ i. (read i).0 in
    let is : decision_in s ≡ _ = ap (λ (v : Verdict). kept v (decision_in s) none) (sym right) ∙ (λ i. (read i).1) in
    ap (λ (ns : List ℕ). (0, ns)) (c.put_numbers.ensures ∙ sym (ap (λ (d : Decision). numbers_of d ++ drop decision_numbers numbers) is))
    ∙ told_accepted (numbers_of (decision_in s)) numbers
    (append_passed (read_rules s) (room numbers) right ∙ last_passed _ NoRoom (on_unless _ (sym c.in-Some.is ∙ c.unless.ensures)))
