-- After some bytes stand their two sums.
use Rattle.std.proofs.Common.{◌≡◌, length, take, ◌%◌, ◌^◌, ◌≤◌}
use Rattle.seal.specs.Seal.{sum, running}
use Rattle.seal.proofs.check_word.Given as goal

abbrev pub invariant-loop-byte : goal.invariant-loop-byte
invariant-loop-byte l =
    let before = take l.byte-index l.s in
    (l.byte-index ≤ length l.s) × (l.sum ≡ sum before % 2 ^ 16) × (l.sums ≡ sum (running 0 before) % 2 ^ 16)
