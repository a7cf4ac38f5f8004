-- The record is written over zeros.
use mathlib.Core.Path.{ap, ◌∙◌}
use lib.ListN.{drop}
use lib.Seq.{length-take-le}
use Rattle.held.specs.Held.{most}
use Rattle.lent.specs.Lent.{zeros}
use Rattle.lent.proofs.Calls.{buffer_put}
use Rattle.lent.proofs.put.Goals as goal

pub slice_bounds-clear-end : goal.slice_bounds-clear-end
slice_bounds-clear-end c = c.requires.room

pub returns : goal.returns
returns c =
    let s = c.args.session.now in
    buffer_put c.args.x.now c.requires.opened _ (drop most s) _ (c.clear.ensures ∙ ap zeros (length-take-le most s c.requires.room)) c.write.ensures
