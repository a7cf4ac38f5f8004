use Rattle.std.proofs.Common.{◌-◌, length, rules, sym, subst}
use Rattle.std.proofs.lemmas.Slice.{overwrites}
use Rattle.std.specs.Io.KnownBytes.{Consumes}
use Rattle.std.proofs.KnownBytes.{Consumes-trans}
use Rattle.feed.proofs.Taken.{take-written}
use Rattle.feed.proofs.source.read_full.Goals as goal

pub loop-came-preserved : goal.loop-came-preserved
loop-came-preserved g c =
    let n = c.in-Ok.ensures.bound.0 in
    let joined = take-written c.loop-came.came (length c.loop-came.s - c.loop-came.came) c.in-Ok.n c.loop-came.s c.read.new.buf c.loop-came.invariant.1 n in
    (search (rules, overwrites), search (rules, overwrites), subst (Consumes _ _) (sym joined) (Consumes-trans _ _ _ _ _ c.loop-came.invariant.2 c.in-Ok.ensures.bytes.0))
