-- The bytes from i on are written, and `rest` is what is left of x.
use Rattle.std.proofs.Common.{◌≡◌, length, drop, ◌-◌, ◌/◌, ◌^◌, ◌≤◌}
use Rattle.bits.specs.Fields.{total, split}
use Rattle.bits.specs.Bytes.{eights}
use Rattle.bits.proofs.put_word.Given as goal

abbrev pub invariant-loop-i : goal.invariant-loop-i
invariant-loop-i l =
    let n = length l.fn.out in
    (l.i ≤ n) × (length l.out ≡ n) × (drop l.i l.out ≡ split (eights (n - l.i)) l.x) × (l.rest ≡ l.x / 2 ^ total (eights (n - l.i)))
