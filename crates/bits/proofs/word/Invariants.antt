-- After some bytes, x is the number that they are, modulo 2 ^ 64.
use Rattle.std.proofs.Common.{◌≡◌, length, take, ◌%◌, ◌^◌, ◌≤◌}
use Rattle.bits.specs.Bytes.{num}
use Rattle.bits.proofs.word.Given as goal

abbrev pub invariant-loop-byte : goal.invariant-loop-byte
invariant-loop-byte l = (l.byte-index ≤ length l.s) × (l.x ≡ num (take l.byte-index l.s) % 2 ^ 64)
