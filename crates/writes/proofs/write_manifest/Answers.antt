-- 4 and 5, then 12, then 13 for lists that can't be blocks; past them the consist's writer.
use Rattle.std.proofs.Common.{◌≡◌, refl, sym, ap, ◌∙◌, Bool, not, List, [], ◌∷◌, ℕ, length}
use mathlib.Core.Bool.{◌&&◌}
use Rattle.std.proofs.lemmas.Result.{err_from_is_err_and}
use borrow.Author.Tests.{not-true, not-false}
use Rattle.refusal.specs.Lowest.{Rule, lowest}
use Rattle.refusal.specs.Number.{told}
use Rattle.refusal.specs.Written.{no_room, written}
use Rattle.refusal.specs.declared.Refusal.{Refusal}
use Rattle.refusal.specs.declared.Refusal.TheVariants.{NoRoom, BrokenBlocks}
use Rattle.refusal.specs.Verdict.{Verdict, Refused}
use Rattle.refusal.proofs.Order.{given, passed, append_passed, append_given}
use Rattle.refusal.proofs.Steps.{on_unless, off_unless}
use Rattle.consist.specs.declared.Consist.{Consist}
use Rattle.consist.specs.Consist.{bytes_of, sound_blocks, rules as consist_rules}
use Rattle.writes.specs.Written.{size_with, manifest_of, broken_lists, manifest_rules, write_manifest}
use Rattle.writes.proofs.Listed.{listed_told}
use Rattle.writes.proofs.write_manifest.Goals as goal

-- what is refused leaves the bytes as they were
refused : (c : Consist) (lengths weights out : List ℕ) (v : Verdict) (r : Refusal) → v ≡ Refused r → lowest (manifest_rules c lengths weights out) ≡ Refused r
    → told (v, out) ≡ told (write_manifest c lengths weights out)
unfolding write_manifest
refused c lengths weights out v r e h =
    ap (λ (w : Verdict). told (w, out)) e ∙ sym (ap (λ (w : Verdict). told (written w (bytes_of (manifest_of c lengths weights)) out)) h)

-- 12 and 13
abbrev behind : Consist → (lengths weights out : List ℕ) → List Rule
behind c lengths weights out = (no_room (size_with (length lengths)) out, NoRoom) ∷ (broken_lists c lengths weights, BrokenBlocks) ∷ []

pub returns-in_err-judge_front : goal.returns-in_err-judge_front
returns-in_err-judge_front c =
    let a = c.args in
    let p = err_from_is_err_and c.from_residual.result c.from_residual.ensures.1 in
    rw (p.1, p.2) (refused a.c a.lengths.now a.weights.now a.out.now _ _ refl
    (append_given (consist_rules a.c) (behind a.c a.lengths.now a.weights.now a.out.now) _ tt (sym c.judge_front.ensures ∙ c.in_err-judge_front.was)))

pub returns-in_default : goal.returns-in_default
unfolding no_room
returns-in_default c =
    let a = c.args in
    let short = sym c.is_short.ensures ∙ off_unless _ (sym c.in_default.is ∙ c.unless.ensures) in
    refused a.c a.lengths.now a.weights.now a.out.now _ NoRoom refl
    (append_passed (consist_rules a.c) (behind a.c a.lengths.now a.weights.now a.out.now) (sym c.judge_front.ensures ∙ c.in_ok-judge_front.was)
    ∙ given _ NoRoom _ tt short)

pub returns-in_default-unless : goal.returns-in_default-unless
unfolding no_room
returns-in_default-unless c =
    let a = c.args in
    let room = sym c.is_short.ensures ∙ on_unless _ (sym c.in-Some.is ∙ c.unless.ensures) in
    let no = sym c.are_listed.ensures ∙ not-true _ (off_unless _ (sym c.in_default-unless.is ∙ c.unless-2.ensures)) in
    refused a.c a.lengths.now a.weights.now a.out.now _ BrokenBlocks refl
    (append_passed (consist_rules a.c) (behind a.c a.lengths.now a.weights.now a.out.now) (sym c.judge_front.ensures ∙ c.in_ok-judge_front.was)
    ∙ passed _ NoRoom _ room
    ∙ given _ BrokenBlocks [] tt (ap (λ (listed : Bool). not (listed && sound_blocks (manifest_of a.c a.lengths.now a.weights.now))) no))

pub returns : goal.returns
returns c =
    let a = c.args in
    let yes = sym c.are_listed.ensures ∙ not-false _ (on_unless _ (sym c.in-Some-unless.is ∙ c.unless-2.ensures)) in
    listed_told a.c a.lengths.now a.weights.now a.out.now _ _ _ yes c.of_lists.ensures c.with_blocks-listed.ensures c.write.ensures
