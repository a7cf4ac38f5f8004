use mathlib.Core.Path.{sym, ◌∙◌}
use native.Mathlib.Nat.{le_refl}
use native.Mathlib.Omega.{arith}
use Rattle.track.specs.Track.{segments}
use Rattle.track.proofs.Holding.{holding_here, holding_stays}
use Rattle.track.proofs.Track.on_from.Goals as goal

pub returns-then-location-self : goal.returns-then-location-self
returns-then-location-self c =
    let last = segments c.args.self.now in
    let k = c.loop-k.k in
    sym c.loop-k.invariant.1 ∙ sym (holding_stays _ _ last c.requires.rises k c.if-location-self.true last (omega (arith, c.loop-k.invariant, c.last-last.ensures)) (le_refl _))

pub loop-k-preserved : goal.loop-k-preserved
loop-k-preserved c = (omega arith, holding_here _ _ _ c.if-location-self.false)
