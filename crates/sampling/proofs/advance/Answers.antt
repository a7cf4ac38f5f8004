use Rattle.std.proofs.Common.{ap, ◌∙◌}
use Rattle.learn.specs.Kept.{taught_of}
use Rattle.sampling.proofs.Accepted.{predictable, after_is}
use Rattle.sampling.proofs.advance.Goals as goal

pub returns : goal.returns
returns c =
    let a = c.args in
    after_is a.x.now a.m a.p.now a.t.now c.updated-updated.result c.of_sample-found.result c.standing-cause.result c.standing-called.result
    c.number-number.result c.decided.result c.decided-2.result c.taught-lesson.result c.in_force.result
    c.updated-updated.ensures c.of_sample-found.ensures c.standing-cause.ensures c.standing-called.ensures c.number-number.ensures
    c.decided.ensures c.decided-2.ensures (c.taught-lesson.ensures ∙ ap (taught_of a.x.now.learner) c.shown.ensures) c.in_force.ensures

pub taught-lesson-requires : goal.taught-lesson-requires
taught-lesson-requires c = c.requires.learner

pub of_sample-found-requires : goal.of_sample-found-requires
of_sample-found-requires c =
    let a = c.args in
    rw c.updated-updated.ensures (predictable a.x.now a.m a.p.now c.requires.ready)
