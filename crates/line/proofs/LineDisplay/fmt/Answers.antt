-- What `Display` writes of a line is its text: std's decimal is the line's, of numbers of 32 bits. Assumes nothing.
use Rattle.std.proofs.Common.{rules, arith, ◌≡◌, [], ◌∷◌, ◌++◌, ◌^◌, ◌<◌, ℕ, Fits, w32, List, ap, sym, ◌∙◌}
use Rattle.std.specs.Fmt as std
use Rattle.bits.proofs.Bit.{same_bit}
use Rattle.refusal.specs.declared.Refusal.{Refusal}
use Rattle.refusal.specs.Number.{number_of}
use Rattle.line.specs.Line.{newline, space, spaced, line_text, read_text, decision_text, refusal_text}
use Rattle.line.proofs.Decimal.{decimal_shown}
use Rattle.line.proofs.Fits.{number_fits}
use Rattle.line.proofs.LineDisplay.fmt.Goals as goal

-- five numbers as std writes them
abbrev shown : ℕ → ℕ → ℕ → ℕ → ℕ → List ℕ
shown a b c d e =
    std.decimal a ++ (space ∷ (std.decimal b ++ (space ∷ (std.decimal c ++ (space ∷ (std.decimal d ++ (space ∷ (std.decimal e ++ newline ∷ []))))))))

shown_is : (a b c d e : ℕ) → a < 2 ^ 32 → b < 2 ^ 32 → c < 2 ^ 32 → d < 2 ^ 32 → e < 2 ^ 32 → shown a b c d e ≡ spaced (a ∷ b ∷ c ∷ d ∷ e ∷ [])
shown_is a b c d e p q r s t =
    rw (decimal_shown a (omega arith), decimal_shown b (omega arith), decimal_shown c (omega arith), decimal_shown d (omega arith), decimal_shown e (omega arith))

refusal_shown : (r : Refusal) → 120 ∷ 32 ∷ std.decimal (number_of r) ++ newline ∷ [] ≡ refusal_text r
unfolding refusal_text
refusal_shown r = rw (decimal_shown (number_of r) (omega (arith, number_fits r)))

pub returns-in-Ok-clause-writes : goal.returns-in-Ok-clause-writes
unfolding decision_text
returns-in-Ok-clause-writes g c = λ plain ok.
    let d = c.in-Ok.d in
    let n = c.from-penalty.result in
    let time : Fits w32 d.time = search rules in
    let state : Fits w32 d.state = search rules in
    let cause : Fits w32 d.cause = search rules in
    let stop : Fits w32 d.stop = search rules in
    let penalty : Fits w32 n = search rules in
    let text : shown d.time d.state n d.cause d.stop ≡ decision_text d =
    shown_is d.time d.state n d.cause d.stop (omega arith) (omega arith) (omega arith) (omega arith) (omega arith)
    ∙ ap (λ (m : ℕ). spaced (d.time ∷ d.state ∷ m ∷ d.cause ∷ d.stop ∷ [])) (c.from-penalty.ensures ∙ same_bit d.penalty) in
    let is : shown d.time d.state n d.cause d.stop ≡ line_text c.args.self.now = text ∙ ap read_text (sym c.in-Ok.is) in
    rw (← is) (search rules)

pub returns-in-Err-clause-writes : goal.returns-in-Err-clause-writes
returns-in-Err-clause-writes g c = λ plain ok.
    let is : 120 ∷ 32 ∷ std.decimal (number_of c.in-Err.r) ++ newline ∷ [] ≡ line_text c.args.self.now = refusal_shown c.in-Err.r ∙ ap read_text (sym c.in-Err.is) in
    rw (← is) (search rules)
