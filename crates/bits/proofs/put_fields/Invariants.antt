-- What is left to put, put over what stands there, is what the whole gives.
use Rattle.std.proofs.Common.{◌≡◌, length, drop, ◌+◌}
use Rattle.bits.specs.Fields.{total}
use Rattle.bits.specs.Places.{put_from}
use Rattle.bits.proofs.put_fields.Given as goal

abbrev pub invariant-loop-width : goal.invariant-loop-width
invariant-loop-width l =
    let k = length l.yielded in
    (goal.iterator-loop-width).can_next l.width-iterator × (goal.iterator-loop-width).is_finite l.width-iterator
    × (length l.out ≡ length l.fn.out) × (l.at + total (drop k l.widths) ≡ l.first + total l.widths)
    × (put_from l.at (drop k l.widths) (drop k l.values) l.out ≡ put_from l.first l.widths l.values l.fn.out)
