-- Nothing but 4 and 5 stands against a consist without blocks that has room.
use mathlib.Core.Path.{ap, ◌∙◌}
use mathlib.Core.List.{List}
use native.Mathlib.Omega.{arith}
use Prim.Native.Nat.{ℕ}
use lib.ListN.{replicate}
use Rattle.refusal.specs.Verdict.{Verdict}
use Rattle.refusal.proofs.Numbers.{told_one}
use Rattle.consist.specs.declared.Consist.{Consist}
use Rattle.consist.specs.Consist.{size, write_consist}
use Rattle.writes.proofs.Listed.{front_verdict}
use Rattle.writes.proofs.judge_front.Goals as goal

pub returns : goal.returns
returns c =
    let wrote = c.write in
    let alone = c.alone in
    ap (λ (x : Verdict × List ℕ). x.0) (told_one _ _ wrote.ensures)
    ∙ ap (λ (x : Consist). (write_consist x (replicate size 0)).0) alone.ensures
    ∙ front_verdict c.args.c (replicate size 0) (omega arith)
