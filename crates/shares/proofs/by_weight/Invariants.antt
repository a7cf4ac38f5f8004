-- The shares are those of the first k blocks, and the totals are those at the front of block k; of the hints it says nothing.
use Rattle.shares.proofs.Turns.{Turn}
use Rattle.shares.proofs.by_weight.Given as goal

abbrev pub invariant-loop-k : goal.invariant-loop-k
invariant-loop-k l = Turn l.route.track.now l.head l.blocks l.location l.front l.shares l.k
