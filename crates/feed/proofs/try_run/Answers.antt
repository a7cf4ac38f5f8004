use Rattle.std.proofs.Common.{rules, sym, ap, ◌∙◌, subst, Some, OnOk}
use mathlib.Core.Path.{ap₂}
use Rattle.std.specs.Result.{result_and}
use Rattle.std.specs.Io.KnownBytes.{Appends}
use Rattle.feed.specs.Bytes.{Leaves}
use Rattle.feed.specs.Output.{unread}
use Rattle.feed.proofs.Known.{if_some, run_printed, run_refused}
use Rattle.feed.proofs.try_run.Goals.{in-Ok, in-Err}
use Rattle.feed.proofs.try_run.Goals as goal

pub returns-clause-printed : goal.returns-clause-printed
returns-clause-printed g c =
    elim c.match-read_opening.branch [
      | in-Ok w ↦ rw (w.output-is) (run_printed c.and.result w.answer_all-printed.result _ _ w.answer_all-printed.new.feed.end _ _ _ _ _
          (c.and.ensures ∙ ap₂ result_and w.printed-is (ap (λ f. f.end) w.feed-is)) w.in-Ok.ensures.bytes w.answer_all-printed.ensures.printed
          (λ xs h q. subst (Appends _ _) (sym h.0) (if_some _ _ _ h.2 q).0))
      | in-Err w ↦ rw (w.output-is) (run_refused c.and.result w.print-printed.result _ _ _ _ _ _
          (c.and.ensures ∙ ap₂ result_and w.printed-is (ap (λ f. f.end) w.feed-is)) w.in-Err.ensures.bytes w.print-printed.ensures
          (λ xs h q. subst (Appends _ _) (w.from.ensures ∙ sym h.0) q))
    ]

pub returns-clause-left : goal.returns-clause-left
returns-clause-left g c =
    elim c.match-read_opening.branch [
      | in-Ok w ↦
          (let name = ap (λ f. f.input.ghost_name) w.feed-is ∙ w.answer_all-printed.ensures.same ∙ w.in-Ok.ensures.same in
          let left : OnOk c.and.result (Leaves (g.R.Read.remaining c.args.input.now) (g.R.Read.remaining c.match-read_opening.feed.input.now) (unread c.args.choice)) =
          run_printed c.and.result w.answer_all-printed.result _ _ w.answer_all-printed.new.feed.end _ _ _ _ _
          (c.and.ensures ∙ ap₂ result_and w.printed-is (ap (λ f. f.end) w.feed-is)) w.in-Ok.ensures.bytes w.answer_all-printed.ensures.printed
          (λ xs h q. ap (λ f. g.R.Read.remaining f.input.now) w.feed-is ∙ (if_some _ _ _ h.2 q).1 ∙ ap Some (sym h.1)) in
          search rules)
      | in-Err w ↦
          (let name = ap (λ f. f.input.ghost_name) w.feed-is ∙ w.in-Err.ensures.same in
          let left : OnOk c.and.result (Leaves (g.R.Read.remaining c.args.input.now) (g.R.Read.remaining c.match-read_opening.feed.input.now) (unread c.args.choice)) =
          run_refused c.and.result w.print-printed.result _ _ _ _ _ _
          (c.and.ensures ∙ ap₂ result_and w.printed-is (ap (λ f. f.end) w.feed-is)) w.in-Err.ensures.bytes w.print-printed.ensures
          (λ xs h q. ap (λ f. g.R.Read.remaining f.input.now) w.feed-is ∙ h.1) in
          search rules)
    ]
