use mathlib.Core.Path.{◌≡◌, sym, ap, ◌∙◌}
use native.Mathlib.Omega.{arith}
use Rattle.track.specs.Totals.{holding_to}
use Rattle.track.proofs.Holding.{holding_here, holding_less}
use Rattle.track.proofs.Track.back_from.Goals as goal

pub returns-then-self-k : goal.returns-then-self-k
returns-then-self-k c = sym (holding_here _ _ c.loop-k.k c.if-self-k.true) ∙ c.loop-k.invariant.1

pub loop-k-preserved : goal.loop-k-preserved
loop-k-preserved c = (omega arith, holding_less _ _ c.loop-k.k (omega arith) c.if-self-k.false ∙ c.loop-k.invariant.1)

pub returns : goal.returns
unfolding holding_to
returns c =
    let e : c.loop-k.k ≡ 0 = omega arith in
    sym (ap (holding_to _ _) e) ∙ c.loop-k.invariant.1
