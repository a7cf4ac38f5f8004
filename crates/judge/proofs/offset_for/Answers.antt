use mathlib.Core.Path.{sym}
use Rattle.judge.specs.Judge.{offset_for}
use Rattle.judge.proofs.Offsets.{offset_none}
use Rattle.judge.proofs.offset_for.Goals as goal

pub returns-then-v-u : goal.returns-then-v-u
returns-then-v-u c = sym (offset_none c.args.offset c.args.v c.args.u c.if-v-u.true)

pub returns : goal.returns
unfolding offset_for
returns c = c.ceil_div.ensures
