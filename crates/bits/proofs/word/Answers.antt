use Rattle.std.proofs.Common.{arith, take}
use native.Mathlib.Numerals.{add-one}
use lib.ListN.{get_or}
use lib.Seq.{take-suc}
use Rattle.bits.proofs.Words.{num_snoc}
use Rattle.bits.proofs.word.Goals as goal

pub loop-byte-preserved : goal.loop-byte-preserved
loop-byte-preserved c =
    let s = c.args.s.now in
    let i = c.loop-byte.byte-index in
    (omega arith, rw (add-one, take-suc s i 0 (omega arith), num_snoc (take i s) (get_or s i 0)) (omega (arith, c.type_inv.s i)))
