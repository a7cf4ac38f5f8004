use Rattle.std.proofs.Common.{◌++◌, ◌∙◌, ap, sym, arith, length, take, drop}
use Rattle.std.proofs.lemmas.List.{length-take}
use lib.Seq.{length-take-le}
use Rattle.std.specs.Option.{ok_or}
use Rattle.feed.proofs.Known.{known_then}
use Rattle.feed.proofs.Room.{room}
use Rattle.feed.proofs.Sections.{or_none, taken_fits, section_read}
use Rattle.feed.proofs.source.Source.section.Goals as goal

pub slice_bounds-fill-end-2 : goal.slice_bounds-fill-end-2
slice_bounds-fill-end-2 g c =
    let part = c.ahead-ahead.result in
    omega (arith, c.unwrap_or.ensures ∙ or_none part, room c.args.section part _ c.ahead-ahead.ensures)

pub slice_bounds-fill-end-3 : goal.slice_bounds-fill-end-3
slice_bounds-fill-end-3 g c =
    let part = c.ahead-ahead.result in
    sym (length-take-le c.unwrap_or.result c.args.s.now (omega (arith, c.unwrap_or.ensures ∙ or_none part, room c.args.section part _ c.ahead-ahead.ensures)))

pub returns-clause-fits : goal.returns-clause-fits
returns-clause-fits g c =
    let out = c.fill-came.new.s ++ drop c.unwrap_or.result c.args.s.now in
    let refused = c.refusal.result in
    taken_fits c.args.section c.ahead-ahead.result (take c.fill-came.result out) c.ok_or.result refused (length out) (omega (arith, length-take c.fill-came.result out)) (c.ok_or.ensures.value ∙ ap (λ p. ok_or p refused) c.taken.ensures)

pub returns-clause-bytes : goal.returns-clause-bytes
returns-clause-bytes g c =
    let part = c.ahead-ahead.result in
    let size = c.unwrap_or.ensures ∙ or_none part in
    known_then _ _ _ _ _ _ _ _ c.fill-n.ensures.bytes c.fill-came.ensures.bytes
    (λ xs f q. section_read c.args.section xs _ _ _ _ _ _ _ _ _ _ c.args.s.now part _ _ _ c.count_size.ensures f c.fill-n.ensures.count.0 c.ahead-ahead.ensures
    size (omega (arith, size, room c.args.section part _ c.ahead-ahead.ensures)) q c.fill-came.ensures.count c.taken.ensures c.refusal.ensures c.ok_or.ensures.value)
