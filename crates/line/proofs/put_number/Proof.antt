-- `line::put_number` meets its contract: the digits that are left, before those that are put, are all the digits. Assumes nothing.
use mathlib.Core.Path.{◌≡◌, refl, ap, ◌∙◌, sym}
use mathlib.Core.List.{List, [], ◌∷◌}
use Prim.Native.Nat.{ℕ, ◌+◌, ◌/◌, ◌%◌, ◌<◌, ◌≤◌}
use native.Mathlib.Omega.{arith}
use lib.ListN.{length, length-set, length-append}
use Rattle.line.specs.Line.{glyph, decimal, put_before}
use Rattle.line.proofs.Decimal.{decimal_more, decimal_last}
use Rattle.line.proofs.Put.{put_one, put_on}
use Rattle.line.proofs.put_number.Statement.{statement}
use Rattle.line.proofs.put_number.Tie as tie

abbrev invariant-loop : tie.invariant-loop-rest
invariant-loop n after end out₀ at₀ rest₀ out at rest =
    (length (decimal rest) ≤ at) × (at ≤ length out) × (length out ≡ length out₀)
    × (put_before (decimal rest) at out ≡ put_before (decimal n) at₀ out₀)

abbrev decreases-loop : tie.decreases-loop-rest
decreases-loop n after end out₀ at₀ rest₀ out at rest = rest

-- above nine, one digit more than the tenth has; below ten, one
more_room : (n : ℕ) → 10 ≤ n → length (decimal n) ≡ length (decimal (n / 10)) + 1
more_room n h = ap length (decimal_more n h) ∙ simp length-append

one_digit : (n : ℕ) → n < 10 → length (decimal n) ≡ 1
one_digit n h = ap length (decimal_last n h)

loop_holds : tie.Need-loop-rest-init invariant-loop decreases-loop
loop_holds c = (omega arith, simp length-set (omega arith), refl, refl)

sub-at-2 : tie.Need-overflow_sub-at-in-loop-rest invariant-loop decreases-loop
sub-at-2 c = omega (arith, more_room _ c.loop-rest-test.true)

slice-write-out-2 : tie.Need-bounds-out-at-in-loop-rest invariant-loop decreases-loop
slice-write-out-2 c = omega (arith, more_room _ c.loop-rest-test.true)

loop_again : tie.Need-loop-rest-preserved invariant-loop decreases-loop
loop_again c =
    let l = c.loop-rest in
    let n = more_room l.rest c.loop-rest-test.true in (
      omega arith,
      simp length-set (omega arith),
      simp length-set (l.invariant.2 ∙ simp length-set),
      put_on l.at l.out l.invariant.1 (decimal (l.rest / 10)) _ _ _ (omega arith) (put_one l.at l.out l.invariant.1 (glyph (l.rest % 10)) (omega arith))
          ∙ ap (λ (t : List ℕ). put_before t l.at l.out) (sym (decimal_more l.rest c.loop-rest-test.true)) ∙ l.invariant.3,
    )

sub-at-3 : tie.Need-overflow_sub-at-2 invariant-loop decreases-loop
sub-at-3 c = omega (arith, one_digit _ c.loop-rest-test.false)

slice-write-out-3 : tie.Need-bounds-out-at-2 invariant-loop decreases-loop
slice-write-out-3 c = omega (arith, one_digit _ c.loop-rest-test.false)

same_length : tie.Need-shape_of-out invariant-loop decreases-loop
same_length c = simp length-set (c.loop-rest.invariant.2 ∙ simp length-set)

returns : tie.Need-returns invariant-loop decreases-loop
returns c =
    let l = c.loop-rest in
    let s = c.before.before in
    let d = one_digit l.rest c.loop-rest-test.false in
    put_one l.at l.out l.invariant.1 (glyph l.rest) (omega arith)
    ∙ ap (λ (t : List ℕ). put_before t l.at l.out) (sym (decimal_last l.rest c.loop-rest-test.false))
    ∙ l.invariant.3
    ∙ put_on s.args.end s.args.out.now s.requires.1 (decimal s.args.n) (s.args.after ∷ []) _ _ s.requires.0 (put_one s.args.end s.args.out.now s.requires.1 s.args.after (omega arith))

pub put_number_spec : {M : Type 1} → statement M
put_number_spec =
    tie.close
    (tie.spec
    invariant-loop
    decreases-loop
    (λ c. omega arith) (λ c. omega arith) loop_holds
    sub-at-2
    (λ c. omega arith) (λ c. omega arith) slice-write-out-2
    (λ c. omega arith) loop_again
    sub-at-3
    (λ c. omega arith) (λ c. omega arith) slice-write-out-3
    same_length
    returns)
