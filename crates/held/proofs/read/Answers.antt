use Rattle.std.proofs.Common.{◌≡◌, ℕ, ◌≤◌, Err, Ok, List, length, sym, ap, arith, ◌∙◌, true, false, not, ◌||◌, Bool}
use mathlib.Core.Bool.{or-true}
use mathlib.Core.Path.{ap₂}
use lib.Seq.{length-take-le}
use Rattle.refusal.proofs.Numbers.{told_is}
use Rattle.refusal.proofs.Steps.{on_unless, off_unless}
use Rattle.blocks.specs.Blocks as blocks
use Rattle.consist.specs.declared.Consist.{Consist}
use Rattle.consist.specs.Consist.{read_consist, consist_in, with_blocks}
use Rattle.session.specs.Session.{is_open}
use Rattle.held.specs.Held.{size, consist_at, session_in, no_record, is_broken, no_session, read_told}
use Rattle.held.proofs.Answers.{is_record, read_is, read_open, consist_accepted, consist_refused, none_broken, same_consist, long_with, blocks_behind}
use Rattle.held.proofs.read.Goals as goal

pub returns-in_default : goal.returns-in_default
unfolding no_session
returns-in_default c =
    let none = sym c.no_record.ensures ∙ off_unless _ (sym c.in_default.is ∙ c.unless.ensures) in
    sym (ap read_told (read_is _ true (rw none)))

pub slice_bounds-read-end : goal.slice_bounds-read-end
slice_bounds-read-end c =
    let past = sym c.no_record.ensures ∙ on_unless _ (sym c.in-Some.is ∙ c.unless.ensures) in
    omega (arith, (is_record c.args.s.now past).long)

pub returns-in_default-read : goal.returns-in_default-read
unfolding no_session
returns-in_default-read c =
    let s = c.args.s.now in
    let past = sym c.no_record.ensures ∙ on_unless _ (sym c.in-Some.is ∙ c.unless.ensures) in
    let long : size ≤ length s = omega (arith, (is_record s past).long) in
    let refused = told_is _ (read_consist (consist_at s)) _ (Err _) c.read.ensures c.in_default-read.is in
    sym (ap read_told (read_is s true (simp (consist_refused s long _ (λ i. (refused i).0), or-true))))

pub slice_bounds-read_front-end : goal.slice_bounds-read_front-end
slice_bounds-read_front-end c =
    let past = sym c.no_record.ensures ∙ on_unless _ (sym c.in-Some.is ∙ c.unless.ensures) in
    let long : size ≤ length c.args.s.now = omega (arith, (is_record c.args.s.now past).long) in
    sym (length-take-le size c.args.s.now long)

-- without blocks
pub returns-then-s-eq-SIZE : goal.returns-then-s-eq-SIZE
returns-then-s-eq-SIZE c =
    let s = c.args.s.now in
    let past = sym c.no_record.ensures ∙ on_unless _ (sym c.in-Some.is ∙ c.unless.ensures) in
    let held = is_record s past in
    let e = c.if-s-eq-SIZE.true in
    let found = told_is _ (read_consist (consist_at s)) _ (Ok _) c.read.ensures c.in-Ok.is in
    let own : c.in-Ok.c ≡ consist_in (consist_at s) = sym (λ i. (found i).1) ∙ consist_accepted s (λ i. (found i).0) in
    c.read_front.ensures ∙ ap read_told (read_open s past (none_broken s e held) _ (own ∙ same_consist s e held))

-- with blocks
pub slice_bounds-is_broken-count : goal.slice_bounds-is_broken-count
slice_bounds-is_broken-count c =
    let past = sym c.no_record.ensures ∙ on_unless _ (sym c.in-Some.is ∙ c.unless.ensures) in
    omega (arith, long_with c.args.s.now c.if-s-eq-SIZE.false (is_record c.args.s.now past))

pub slice_bounds-is_broken-start : goal.slice_bounds-is_broken-start
slice_bounds-is_broken-start c =
    let past = sym c.no_record.ensures ∙ on_unless _ (sym c.in-Some.is ∙ c.unless.ensures) in
    omega (arith, long_with c.args.s.now c.if-s-eq-SIZE.false (is_record c.args.s.now past))

pub slice_bounds-laid-count : goal.slice_bounds-laid-count
slice_bounds-laid-count c =
    let past = sym c.no_record.ensures ∙ on_unless _ (sym c.in-Some.is ∙ c.unless.ensures) in
    omega (arith, long_with c.args.s.now c.if-s-eq-SIZE.false (is_record c.args.s.now past))

pub slice_bounds-laid-start : goal.slice_bounds-laid-start
slice_bounds-laid-start c =
    let past = sym c.no_record.ensures ∙ on_unless _ (sym c.in-Some.is ∙ c.unless.ensures) in
    omega (arith, long_with c.args.s.now c.if-s-eq-SIZE.false (is_record c.args.s.now past))

pub slice_bounds-read_front-end-2 : goal.slice_bounds-read_front-end-2
slice_bounds-read_front-end-2 c =
    let past = sym c.no_record.ensures ∙ on_unless _ (sym c.in-Some.is ∙ c.unless.ensures) in
    let long : size ≤ length c.args.s.now = omega (arith, (is_record c.args.s.now past).long) in
    sym (length-take-le size c.args.s.now long)

pub returns-in_default-unless : goal.returns-in_default-unless
unfolding no_session is_broken
returns-in_default-unless c =
    let s = c.args.s.now in
    let past = sym c.no_record.ensures ∙ on_unless _ (sym c.in-Some.is ∙ c.unless.ensures) in
    let held = is_record s past in
    let found = told_is _ (read_consist (consist_at s)) _ (Ok _) c.read.ensures c.in-Ok.is in
    let own : c.in-Ok.c ≡ consist_in (consist_at s) = sym (λ i. (found i).1) ∙ consist_accepted s (λ i. (found i).0) in
    let behind = blocks_behind s c.if-s-eq-SIZE.false held in
    let broken : is_broken s ≡ true =
    sym (c.is_broken.ensures ∙ ap₂ (λ (d : Consist) (z : List ℕ). blocks.is_broken z d.length d.weight) own behind)
    ∙ off_unless _ (sym c.in_default-unless.is ∙ c.unless-2.ensures) in
    sym (ap read_told (read_is s true (ap (λ (b : Bool). no_record s || b || not (is_open (session_in s))) broken ∙ ap (λ (b : Bool). b || not (is_open (session_in s))) (or-true (no_record s)))))

pub returns : goal.returns
unfolding is_broken
returns c =
    let s = c.args.s.now in
    let past = sym c.no_record.ensures ∙ on_unless _ (sym c.in-Some.is ∙ c.unless.ensures) in
    let held = is_record s past in
    let found = told_is _ (read_consist (consist_at s)) _ (Ok _) c.read.ensures c.in-Ok.is in
    let own : c.in-Ok.c ≡ consist_in (consist_at s) = sym (λ i. (found i).1) ∙ consist_accepted s (λ i. (found i).0) in
    let behind = blocks_behind s c.if-s-eq-SIZE.false held in
    let right : is_broken s ≡ false =
    sym (c.is_broken.ensures ∙ ap₂ (λ (d : Consist) (z : List ℕ). blocks.is_broken z d.length d.weight) own behind)
    ∙ on_unless _ (sym c.in-Some-unless.is ∙ c.unless-2.ensures) in
    let with_blocks_is = c.with_blocks.ensures ∙ ap₂ with_blocks own (c.laid-b.ensures ∙ ap blocks.lay_of behind) in
    c.read_front-2.ensures ∙ ap read_told (read_open s past right _ with_blocks_is)
