-- `line::put_cross` meets its contract: the number, and before it the space and the `x`. Assumes nothing.
use Rattle.std.proofs.Common.{◌≡◌, [], ◌∷◌, ◌+◌, ◌-◌, ◌≤◌, ◌∙◌, ap, ℕ, ◌<◌, ◌^◌, List, length, arith}
use lib.ListN.{set, length-set, length-append}
use Rattle.line.specs.Line.{space, cross, spaced, refusal_text, put_before}
use Rattle.line.proofs.Decimal.{ten_digits}
use Rattle.line.proofs.Put.{put_at, put_one, put_on}
use Rattle.line.proofs.put_cross.Goals as goal

-- the number, which is put first, begins where two bytes are left before it, and no byte is added
begins : (n end at : ℕ) (now out : List ℕ) → n < 2 ^ 8 → 55 ≤ end → end ≤ length out → (at, now) ≡ put_before (spaced (n ∷ [])) end out
    → (at + length (spaced (n ∷ [])) ≡ end) × (length (spaced (n ∷ [])) ≤ 11) × (length now ≡ length out)
begins n end at now out small room inside e =
    let line : length (spaced (n ∷ [])) ≤ 11 = simp length-append (omega (arith, ten_digits n (omega arith))) in
    let p = put_at end out inside (spaced (n ∷ [])) at now (omega arith) e in
    (p.0, line, p.1)

pub overflow_sub-at : goal.overflow_sub-at
overflow_sub-at c = omega (arith, begins c.from.result c.args.end _ _ c.args.out.now (omega arith) (omega arith) (omega arith) c.put_numbers-at.ensures)

pub bounds-out-at : goal.bounds-out-at
bounds-out-at c = omega (arith, begins c.from.result c.args.end _ _ c.args.out.now (omega arith) (omega arith) (omega arith) c.put_numbers-at.ensures)

pub overflow_sub-at-2 : goal.overflow_sub-at-2
overflow_sub-at-2 c = omega (arith, begins c.from.result c.args.end _ _ c.args.out.now (omega arith) (omega arith) (omega arith) c.put_numbers-at.ensures)

pub bounds-out-at-2 : goal.bounds-out-at-2
bounds-out-at-2 c =
    simp length-set (omega (arith, begins c.from.result c.args.end _ _ c.args.out.now (omega arith) (omega arith) (omega arith) c.put_numbers-at.ensures))

pub returns : goal.returns
unfolding refusal_text
returns c =
    let a = c.args in
    let n = c.from.result in
    let at = c.put_numbers-at.result in
    let now = c.put_numbers-at.new.out in
    let b = begins n a.end at now a.out.now (omega arith) (omega arith) (omega arith) c.put_numbers-at.ensures in
    let put : (at, now) ≡ put_before (spaced (n ∷ [])) a.end a.out.now = c.put_numbers-at.ensures in
    let inside : a.end ≤ length a.out.now = omega arith in
    let spaced_put = put_on a.end a.out.now inside (space ∷ []) (spaced (n ∷ [])) at now (omega arith) put in
    put_one (at - 1) (set now (at - 1) space) (simp length-set (omega arith)) cross (omega arith)
    ∙ put_on a.end a.out.now inside (cross ∷ []) (space ∷ spaced (n ∷ [])) _ _ (omega arith) (put_one at now (omega arith) space (omega arith) ∙ spaced_put)
    ∙ ap (λ (m : ℕ). put_before (cross ∷ space ∷ spaced (m ∷ [])) a.end a.out.now) (c.from.ensures ∙ c.number.ensures)
