-- Its three terms do not meet.
use mathlib.Core.Path.{sym, ap₂, subst}
use Prim.Native.Nat.{ℕ, ◌+◌, ◌<◌, ◌^◌}
use native.Mathlib.Omega.{arith}
use lib.Pow.{pow_pos}
use Rattle.bits.proofs.OneField.{one_shl, lower_part, lower_fits, upper_part, one_word_fits}
use borrow.Author.Rules.{rules}
use Rattle.bits.proofs.replace.Goals as goal

pub returns : goal.returns
returns c = let a = c.args in ap₂ ◌+◌ (upper_part a.w a.behind a.width a.value (search rules) (omega arith)) (lower_part a.w a.behind a.width a.value (search rules) (omega arith))

pub nonzero_rem-result : goal.nonzero_rem-result
nonzero_rem-result c = rw (one_shl c.args.width (omega arith)) (pow_pos c.args.width)

pub nonzero_rem-result-2 : goal.nonzero_rem-result-2
nonzero_rem-result-2 c = rw (one_shl c.args.behind (omega arith)) (pow_pos c.args.behind)

pub overflow_add-result : goal.overflow_add-result
overflow_add-result c = let a = c.args in record { fits = subst (λ (x : ℕ). x < 2 ^ 64) (sym (lower_part a.w a.behind a.width a.value (search rules) (omega arith))) (lower_fits a.w a.behind a.width a.value (search rules) (omega arith)) }

pub overflow_add-result-2 : goal.overflow_add-result-2
overflow_add-result-2 c =
    let a = c.args in
    record { fits = subst (λ (x : ℕ). x < 2 ^ 64) (sym (ap₂ ◌+◌ (upper_part a.w a.behind a.width a.value (search rules) (omega arith)) (lower_part a.w a.behind a.width a.value (search rules) (omega arith)))) (one_word_fits a.w a.behind a.width a.value (search rules) (omega arith)) }
