-- Nothing is touched until both rules have passed.
use mathlib.Core.Path.{refl, sym, ap, ◌∙◌}
use mathlib.Core.Bool.{true, false, not}
use lib.Dec.{ltb}
use lib.ListN.{length}
use borrow.Author.Tests.{ltb-false, not-false}
use Rattle.refusal.specs.Number.{told}
use Rattle.refusal.specs.Written.{no_room}
use Rattle.refusal.specs.Verdict.{Accepted}
use Rattle.refusal.proofs.Steps.{on_unless, off_unless}
use Rattle.held.specs.Held.{size_of}
use Rattle.held.proofs.Answers.{write_is, write_accepted}
use Rattle.stored.proofs.write.Goals as goal

pub returns : goal.returns
returns c =
    let a = c.args in
    let opened = sym c.is_open.ensures ∙ not-false _ (on_unless _ (sym c.in-Some.is ∙ c.unless.ensures)) in
    let room = ltb-false (length a.out.now) (size_of a.x)
    (ap (ltb (length a.out.now)) (sym c.size_for-size.ensures) ∙ on_unless _ (sym c.in-Some-unless.is ∙ c.unless-2.ensures)) in
    ap told ((λ i. (Accepted, c.put.ensures i)) ∙ sym (write_accepted _ _ opened room))

pub put-requires-clause-opened : goal.put-requires-clause-opened
put-requires-clause-opened c = sym c.is_open.ensures ∙ not-false _ (on_unless _ (sym c.in-Some.is ∙ c.unless.ensures))

pub put-requires-clause-room : goal.put-requires-clause-room
put-requires-clause-room c =
    let a = c.args in
    ltb-false (length a.out.now) (size_of a.x)
    (ap (ltb (length a.out.now)) (sym c.size_for-size.ensures) ∙ on_unless _ (sym c.in-Some-unless.is ∙ c.unless-2.ensures))

pub returns-in_default : goal.returns-in_default
returns-in_default c =
    let closed = ap not (sym c.is_open.ensures) ∙ off_unless _ (sym c.in_default.is ∙ c.unless.ensures) in
    ap told (sym (write_is _ _ true _ closed refl))

pub returns-in_default-unless : goal.returns-in_default-unless
unfolding no_room
returns-in_default-unless c =
    let full = ap (ltb (length c.args.out.now)) (sym c.size_for-size.ensures) ∙ off_unless _ (sym c.in_default-unless.is ∙ c.unless-2.ensures) in
    let opened = sym c.is_open.ensures ∙ not-false _ (on_unless _ (sym c.in-Some.is ∙ c.unless.ensures)) in
    ap told (sym (write_is _ _ false true (ap not opened) full))
