use Rattle.std.proofs.Common.{◌≡◌, ℕ, arith, subst, length, drop, ◌-◌, ◌/◌, ◌^◌}
use Prim.Native.Nat.{suc}
use lib.ListN.{length-set}
use Rattle.bits.specs.Fields.{split, total}
use Rattle.bits.specs.Bytes.{eights}
use Rattle.bits.proofs.Words.{put_step}
use Rattle.bits.proofs.put_word.Goals as goal

pub loop-i-preserved : goal.loop-i-preserved
loop-i-preserved c =
    let n = length c.args.out.now in
    let x = c.args.x in
    let o = c.loop-i.out in
    let i = c.loop-i.i in
    let e : i ≡ suc (i - 1) = omega arith in
    let s =
    put_step o n (i - 1) x c.loop-i.rest (omega arith) c.loop-i.invariant.1
    (subst (λ (k : ℕ). drop k o ≡ split (eights (n - k)) x) e c.loop-i.invariant.2)
    (subst (λ (k : ℕ). c.loop-i.rest ≡ x / 2 ^ total (eights (n - k))) e c.loop-i.invariant.3) in
    (omega arith, simp length-set c.loop-i.invariant.1, s.0, s.1)
