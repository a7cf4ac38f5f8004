use Rattle.std.proofs.Common.{Err, Ok}
use Rattle.held.specs.Held.{record_at, read_session}
use Rattle.held.proofs.Answers.{read_of}
use Rattle.lent.proofs.Calls.{time_of_none, time_of_one}
use Rattle.lent.proofs.application.Goals as goal

pub returns-in_default : goal.returns-in_default
returns-in_default c =
    let read = read_of (read_session (record_at c.args.session.now)) _ (Err _) c.read_start.ensures c.in_default.is in
    time_of_none c.args.session.now _ (λ i. (read i).0)

pub returns : goal.returns
returns c =
    let read = read_of (read_session (record_at c.args.session.now)) _ (Ok _) c.read_start.ensures c.in-Ok.is in
    time_of_one c.args.session.now _ read
