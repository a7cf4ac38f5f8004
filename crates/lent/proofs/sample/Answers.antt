use Rattle.std.proofs.Common.{Err, Ok}
use Rattle.session.specs.Session.{answer}
use Rattle.held.specs.Held.{record_at, read_session}
use Rattle.held.proofs.Answers.{read_of}
use Rattle.lent.proofs.Calls.{sample_unread, sample_refused, sample_accepted, next_open, whole}
use Rattle.lent.proofs.sample.Goals as goal

pub returns-in-Err : goal.returns-in-Err
returns-in-Err c =
    let a = c.args in
    let read = read_of (read_session (record_at a.session.now)) _ (Err _) c.read_start.ensures c.in-Err.is in
    sample_unread a.session.now a.sample.now a.profile.now a.targets.now a.decision.now c.number.ensures (λ i. (read i).0)

pub returns-in-Err-sample : goal.returns-in-Err-sample
returns-in-Err-sample c =
    let a = c.args in
    let read = read_of (read_session (record_at a.session.now)) _ (Ok _) c.read_start.ensures c.in-Ok.is in
    sample_refused a.session.now a.sample.now a.profile.now a.targets.now a.decision.now c.in-Ok.x read
    (answer c.sample.new.x c.sample.result) c.sample.new.out c.sample.ensures c.number-in-Err-sample.ensures c.in-Err-sample.is

pub returns : goal.returns
returns c =
    let a = c.args in
    let read = read_of (read_session (record_at a.session.now)) _ (Ok _) c.read_start.ensures c.in-Ok.is in
    sample_accepted a.session.now a.sample.now a.profile.now a.targets.now a.decision.now c.in-Ok.x read
    (answer c.sample.new.x c.sample.result) c.sample.new.out c.sample.ensures c.put.ensures c.in_default.is

pub put-requires-clause-opened : goal.put-requires-clause-opened
put-requires-clause-opened c =
    let a = c.args in
    let read = read_of (read_session (record_at a.session.now)) _ (Ok _) c.read_start.ensures c.in-Ok.is in
    next_open a.session.now a.sample.now a.profile.now a.targets.now a.decision.now c.in-Ok.x read
    (answer c.sample.new.x c.sample.result) c.sample.new.out c.sample.ensures c.in_default.is

pub put-requires-clause-room : goal.put-requires-clause-room
put-requires-clause-room c =
    let a = c.args in
    let read = read_of (read_session (record_at a.session.now)) _ (Ok _) c.read_start.ensures c.in-Ok.is in
    whole a.session.now (λ i. (read i).0)
