-- `feed::print` meets its contract: the lines fit their bytes, and what is written is their text. Assumes nothing.
use Rattle.std.proofs.Common.{rules, arith, ◌≡◌, ◌≤◌, ◌-◌, length, take, drop, subst, ◌∙◌}
use Rattle.std.specs.Result.{OnOk}
use Rattle.std.specs.Io.KnownBytes.{Appends}
use lib.ListN.{length-drop}
use Rattle.std.proofs.lemmas.List.{take_all}
use Rattle.line.specs.Line.{lines_text, room}
use Rattle.line.proofs.Fits.{two_fit}
use Rattle.feed.proofs.Fits.{within, put_is}
use Rattle.feed.proofs.print.Goals as goal

pub slice_bounds-write_full-count : goal.slice_bounds-write_full-count
slice_bounds-write_full-count g c =
    let fits : length (lines_text c.args.lines) ≤ room =
    two_fit c.args.lines (λ d e. (search (rules, arith), search (rules, arith), search (rules, arith), search (rules, arith)))
    (λ m d e f. (search (rules, arith), search (rules, arith), search (rules, arith), search (rules, arith))) in
    let p = within _ _ (lines_text c.args.lines) fits c.put-from.ensures in
    omega arith

pub slice_bounds-write_full-start : goal.slice_bounds-write_full-start
slice_bounds-write_full-start g c =
    let fits : length (lines_text c.args.lines) ≤ room =
    two_fit c.args.lines (λ d e. (search (rules, arith), search (rules, arith), search (rules, arith), search (rules, arith)))
    (λ m d e f. (search (rules, arith), search (rules, arith), search (rules, arith), search (rules, arith))) in
    let p = within _ _ (lines_text c.args.lines) fits c.put-from.ensures in
    let q = p.0 in
    search (rules, arith)

pub returns : goal.returns
returns g c =
    let fits : length (lines_text c.args.lines) ≤ room =
    two_fit c.args.lines (λ d e. (search (rules, arith), search (rules, arith), search (rules, arith), search (rules, arith)))
    (λ m d e f. (search (rules, arith), search (rules, arith), search (rules, arith), search (rules, arith))) in
    let now = c.put-from.new.out in
    let from = c.put-from.result in
    let text : take (room - from) (drop from now) ≡ lines_text c.args.lines =
    take_all (room - from) (drop from now) (omega (arith, length-drop from now, c.put-from.array_long)) ∙ put_is _ _ (lines_text c.args.lines) fits c.put-from.ensures in
    subst (λ bs. OnOk c.write_full.result (Appends (g.W.Write.contents c.args.output.now) (g.W.Write.contents c.write_full.new.output) bs)) text c.write_full.ensures
