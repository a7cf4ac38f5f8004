-- What holds among the records up to `near` holds among them again.
use mathlib.Core.Path.{◌≡◌, sym, ap, ◌∙◌}
use native.Mathlib.Omega.{arith}
use Rattle.track.specs.Totals.{holding_to}
use Rattle.track.proofs.Holding.{holding_most, holding_twice}
use Rattle.track.proofs.Track.segment_of.Goals as goal

pub on_from-requires : goal.on_from-requires
on_from-requires c =
    let starts = c.args.self.now.starts in
    let x = c.args.location in
    let from = c.min-from.result in
    let e : c.back_from-k.result ≡ holding_to starts x from = c.back_from-k.ensures in
    record {
      rises = c.requires;
      among = omega (arith, holding_most starts x from);
      holds = ap (holding_to starts x) e ∙ holding_twice starts x from ∙ sym e;
    }
