use native.Mathlib.Omega.{arith}
use Rattle.shares.proofs.Sums.{small_grade, some_weight}
use Rattle.shares.proofs.Turns.{begun, asked, turned}
use Rattle.shares.proofs.by_weight.Goals as goal

pub loop-k-init : goal.loop-k-init
loop-k-init c = begun _ _ _ c.reached_at-at_head.result c.reached_at-at_head.ensures

pub plus-shares-requires : goal.plus-shares-requires
plus-shares-requires c =
    asked c.loop-k.invariant c.requires.gentle c.args.weight c.requires.loaded (omega arith) (omega arith) (omega arith) _ _ c.saturating_sub-location.ensures c.reached_at-at_rear.ensures

pub loop-k-preserved : goal.loop-k-preserved
loop-k-preserved c =
    turned c.loop-k.invariant c.requires.gentle (omega arith) _ _ _ c.saturating_sub-location.ensures c.reached_at-at_rear.ensures c.plus-shares.ensures

pub over-requires : goal.over-requires
over-requires c =
    let i = c.loop-k.invariant in (
      rw i.shared (small_grade _ _ _ c.requires.gentle c.args.weight c.requires.loaded (omega arith) c.loop-k.k i.turns),
      some_weight c.args.route.track.now c.args.head _ c.requires.gentle c.args.weight c.requires.loaded (omega arith),
    )
