use Rattle.std.proofs.Common.{refl, ap, ◌∙◌, Ok}
use Rattle.feed.proofs.Known.{known_then, known_still}
use Rattle.feed.proofs.Turns.{follows_same, follows_more, follows_end}
use Rattle.feed.proofs.answer_all.Goals as goal

pub loop-init : goal.loop-init
loop-init g c = (refl, known_still _ _ _ (follows_same _ _ _ _))

pub loop-preserved : goal.loop-preserved
loop-preserved g c =
    let turn = c.in_ok-answer_one.ensures in
    (turn.same ∙ c.loop.invariant.0, known_then _ _ _ _ _ _ _ _ c.loop.invariant.1 (turn.more (ap Ok c.if-not-branch.false)) (λ xs f q. follows_more _ _ _ _ xs _ _ _ _ _ f q))

pub returns-then-not-branch-clause-printed : goal.returns-then-not-branch-clause-printed
returns-then-not-branch-clause-printed g c =
    known_then _ _ _ _ _ _ _ _ c.loop.invariant.1 (c.in_ok-answer_one.ensures.last (ap Ok c.if-not-branch.true)) (λ xs f q. follows_end _ _ _ xs _ _ _ _ _ f q)
