use Rattle.std.proofs.Common.{◌≡◌, ◌∙◌, ◌%◌, ◌^◌, ◌≤◌, ℕ, List, length, subst, arith}
use lib.Seq.{take-length}
use borrow.Author.Tests.{eq-eqb}
use Rattle.bits.specs.Bytes.{num, Bytes}
use Rattle.bits.proofs.Words.{part_word}
use Rattle.opening.proofs.announced.Goals as goal

whole : (s : List ℕ) → Bytes s → length s ≤ 8 → num s % 2 ^ 64 ≡ num s
whole s b h = subst (λ (l : List ℕ). num l % 2 ^ 64 ≡ num l) (take-length s) (part_word s 0 (length s) b h (omega arith))

pub returns-then-least-n : goal.returns-then-least-n
returns-then-least-n c =
    let s = c.args.count.now in
    let counted : c.word-n.result ≡ num s = c.word-n.ensures ∙ whole s (λ i. grind arith) (omega arith) in
    rw (← counted, eq-eqb (length s) c.args.width (omega arith), c.if-least-n.true)
