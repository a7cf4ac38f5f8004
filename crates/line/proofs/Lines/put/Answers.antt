-- `line::Lines::put` meets its contract: the second line is put last, and the first before it. Assumes nothing.
use Rattle.std.proofs.Common.{rules, arith, ◌≡◌, ◌++◌, ℕ, length, ap, sym, ◌∙◌}
use Rattle.line.specs.Line.{line_text, second_text, put_before, room}
use Rattle.line.proofs.Fits.{line_fits}
use Rattle.line.proofs.Put.{put_at, put_on}
use Rattle.line.proofs.Lines.put.Goals as goal

pub put-requires : goal.put-requires
put-requires c =
    let second = c.in-Some.second in
    let fits = line_fits second (λ d e. (search (rules, arith), search (rules, arith), search (rules, arith), search (rules, arith))) in
    let p = put_at room c.args.out.now (omega arith) (line_text second) _ _ (omega arith) c.put-end.ensures in
    (omega arith, omega arith)

pub returns-in-Some : goal.returns-in-Some
returns-in-Some c =
    let out = c.args.out.now in
    let first = c.args.self.first in
    let second = c.in-Some.second in
    let first_fits = line_fits first (λ d e. (search (rules, arith), search (rules, arith), search (rules, arith), search (rules, arith))) in
    let second_fits = line_fits second (λ d e. (search (rules, arith), search (rules, arith), search (rules, arith), search (rules, arith))) in
    let whole : room ≡ length out = omega arith in
    c.put.ensures
    ∙ put_on room out (omega arith) (line_text first) (line_text second) _ _ (omega arith) c.put-end.ensures
    ∙ ap (λ (n : ℕ). put_before (line_text first ++ line_text second) n out) whole
    ∙ ap (λ s. put_before (line_text first ++ second_text s) (length out) out) (sym c.in-Some.is)
