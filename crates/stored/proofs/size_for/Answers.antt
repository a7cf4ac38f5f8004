use mathlib.Core.Path.{sym, ap}
use native.Mathlib.Nat.{pos_of_ne-zero}
use native.Mathlib.Omega.{arith}
use Rattle.held.specs.Held.{size_for}
use Rattle.held.proofs.Sizes.{size_some}
use Rattle.stored.proofs.size_for.Goals as goal

pub returns-then-count-eq0 : goal.returns-then-count-eq0
returns-then-count-eq0 c = sym (ap size_for c.if-count-eq0.true)

pub returns : goal.returns
returns c = let some = size_some c.args.count (pos_of_ne-zero c.if-count-eq0.false) in omega arith
