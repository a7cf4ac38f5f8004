use Rattle.std.proofs.Common.{[]}
use Rattle.std.proofs.lemmas.Result.{err_from_is_err_and}
use Rattle.feed.proofs.Known.{known_as, known_then, known_both}
use Rattle.feed.proofs.Opening.{consist_refused, profile_refused, targets_refused, all_read}
use Rattle.feed.proofs.read_opening.Goals as goal

pub returns-in_err-session-clause-bytes : goal.returns-in_err-session-clause-bytes
returns-in_err-session-clause-bytes g c =
    let p = err_from_is_err_and c.from_residual.result c.from_residual.ensures.1 in
    rw (p.1, p.2) (known_as _ _ _ _ _ c.in_err-session.ensures.bytes (λ xs h. consist_refused c.args.choice xs _ _ h))

pub returns-in_err-n-clause-bytes : goal.returns-in_err-n-clause-bytes
returns-in_err-n-clause-bytes g c =
    let p = err_from_is_err_and c.from_residual-in_err-n.result c.from_residual-in_err-n.ensures.1 in
    rw (p.1, p.2) (known_then _ _ _ _ _ _ _ _ c.in_ok-session.ensures.bytes c.in_err-n.ensures.bytes (λ xs f q. profile_refused c.args.choice xs _ _ f _ [] _ q))

pub returns-in_err-m-clause-bytes : goal.returns-in_err-m-clause-bytes
returns-in_err-m-clause-bytes g c =
    let p = err_from_is_err_and c.from_residual-in_err-m.result c.from_residual-in_err-m.ensures.1 in
    rw (p.1, p.2) (known_then _ _ _ _ _ _ _ _ (known_both _ _ _ _ _ _ _ c.in_ok-session.ensures.bytes c.in_ok-n.ensures.bytes) c.in_err-m.ensures.bytes
    (λ xs f q. targets_refused c.args.choice xs _ _ f.0 _ _ _ f.1 _ [] _ q))

pub returns-clause-bytes : goal.returns-clause-bytes
returns-clause-bytes g c =
    known_then _ _ _ _ _ _ _ _ (known_both _ _ _ _ _ _ _ c.in_ok-session.ensures.bytes c.in_ok-n.ensures.bytes) c.in_ok-m.ensures.bytes
    (λ xs f q. all_read c.args.choice xs _ _ f.0 _ _ _ f.1 _ _ _ q)
