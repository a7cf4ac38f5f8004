use Rattle.std.proofs.Common.{◌≡◌, sym, ap, ◌∙◌, ℕ, length, drop, ◌++◌}
use Rattle.refusal.specs.Number.{number_of_verdict}
use Rattle.session.specs.declared.Session.{Session}
use Rattle.session.specs.Session.{Answer, answer, is_open, none_open}
use Rattle.session.specs.Open.{open_of}
use Rattle.session.proofs.Told.{session_one, answer_one}
use Rattle.held.specs.Held.{most}
use Rattle.lent.specs.Lent.{buffer_of, with_room}
use Rattle.lent.proofs.Calls.{open_refused, opened_open, open_accepted}
use Rattle.lent.proofs.open.Goals as goal

pub returns-then-number-ne0 : goal.returns-then-number-ne0
returns-then-number-ne0 c =
    let a = c.args in
    let answers : answer c.open.new.x c.open.result ≡ open_of none_open a.consist.now a.choice =
    answer_one _ _ c.open.ensures ∙ ap (λ (x : Session). open_of x a.consist.now a.choice) (session_one _ _ c.none-x.ensures) in
    let told = c.with_room-number.ensures ∙ ap (λ (t : ℕ). with_room t (length a.session.now)) (c.verdict_number-told.ensures ∙ ap (λ (y : Answer). number_of_verdict y.verdict) answers) in
    open_refused a.consist.now a.choice a.session.now told c.if-number-ne0.true

pub returns : goal.returns
returns c =
    let a = c.args in
    let answers : answer c.open.new.x c.open.result ≡ open_of none_open a.consist.now a.choice =
    answer_one _ _ c.open.ensures ∙ ap (λ (x : Session). open_of x a.consist.now a.choice) (session_one _ _ c.none-x.ensures) in
    let told = c.with_room-number.ensures ∙ ap (λ (t : ℕ). with_room t (length a.session.now)) (c.verdict_number-told.ensures ∙ ap (λ (y : Answer). number_of_verdict y.verdict) answers) in
    open_accepted a.consist.now a.choice a.session.now (sym told ∙ c.if-number-ne0.false)
    (c.put.ensures ∙ ap (λ (y : Answer). buffer_of y.session ++ drop most a.session.now) answers)

pub put-requires-clause-opened : goal.put-requires-clause-opened
put-requires-clause-opened c =
    let a = c.args in
    let answers : answer c.open.new.x c.open.result ≡ open_of none_open a.consist.now a.choice =
    answer_one _ _ c.open.ensures ∙ ap (λ (x : Session). open_of x a.consist.now a.choice) (session_one _ _ c.none-x.ensures) in
    let told = c.with_room-number.ensures ∙ ap (λ (t : ℕ). with_room t (length a.session.now)) (c.verdict_number-told.ensures ∙ ap (λ (y : Answer). number_of_verdict y.verdict) answers) in
    ap (λ (y : Answer). is_open y.session) answers ∙ opened_open a.consist.now a.choice a.session.now (sym told ∙ c.if-number-ne0.false)
