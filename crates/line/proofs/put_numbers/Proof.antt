-- `line::put_numbers` meets its contract: what stands is the line from number i on. Assumes nothing.
use mathlib.Core.Path.{◌≡◌, refl, ap, ◌∙◌, subst}
use mathlib.Core.List.{[], ◌∷◌, ◌++◌}
use Prim.Native.Nat.{ℕ, suc, ◌*◌, ◌-◌, ◌≤◌}
use native.Mathlib.Omega.{arith}
use lib.ListN.{length, get_or, drop}
use lib.Seq.{drop-length, drop-cons}
use Rattle.line.specs.Line.{decimal, separator, spaced, put_before}
use Rattle.line.proofs.Decimal.{ten_digits}
use Rattle.line.proofs.Spaced.{Stands, none_stands, more_stands}
use Rattle.line.proofs.put_numbers.Statement.{statement}
use Rattle.line.proofs.put_numbers.Tie as tie

abbrev invariant-loop : tie.invariant-loop-i
invariant-loop ns end out₀ at₀ i₀ after₀ out at i after =
    (i ≤ length ns) × (after ≡ separator (drop i ns)) × Stands end out₀ (drop i ns) (11 * i) at out

abbrev decreases-loop : tie.decreases-loop-i
decreases-loop ns end out₀ at₀ i₀ after₀ out at i after = i

loop_holds : tie.Need-loop-i-init invariant-loop decreases-loop
loop_holds c =
    let ns = c.args.ns.now in
    rw (drop-length ns) (omega arith, refl, none_stands _ _ (11 * length ns) (omega arith))

put-number-requires : tie.Need-put_number-at-requires invariant-loop decreases-loop
put-number-requires c κs =
    let i = c.loop-i.i in
    omega (arith, ten_digits _ (c.shared_slice_known-in-loop-i-1.given (i - 1)).fits)

loop_again : tie.Need-loop-i-preserved invariant-loop decreases-loop
loop_again c =
    let put = c.before.before in
    let turn = put.before.before in
    let at = turn.before.before in
    let l = at.loop-i in
    let ns = at.args.ns.now in
    let j = l.i - 1 in
    let e : suc j ≡ l.i = omega arith in
    let d : drop j ns ≡ get_or ns j 0 ∷ drop l.i ns =
    drop-cons ns j 0 (omega arith) ∙ ap (λ (k : ℕ). get_or ns j 0 ∷ drop k ns) e in
    rw d (
      omega arith,
      refl,
      more_stands _ _ (drop l.i ns) l.out _ (get_or ns j 0) (11 * j) (11 * l.i) l.at _
          (omega arith) (turn.shared_slice_known-in-loop-i-1.given j).fits (omega arith) l.invariant.2
          (subst (λ (b : ℕ). (put.put_number-at.result, put.put_number-at.new.out) ≡ put_before (decimal (get_or ns j 0) ++ b ∷ []) l.at l.out)
          l.invariant.1 put.put_number-at.ensures),
    )

same_length : tie.Need-shape_of-out invariant-loop decreases-loop
same_length c = c.loop-i.invariant.2.same

returns : tie.Need-returns invariant-loop decreases-loop
returns c =
    let e : c.loop-i.i ≡ 0 = omega arith in
    let a = c.args in
    subst (λ (k : ℕ). (c.loop-i.at, c.loop-i.out) ≡ put_before (spaced (drop k a.ns.now)) a.end a.out.now)
    e c.loop-i.invariant.2.text

pub put_numbers_spec : {M : Type 1} → statement M
put_numbers_spec =
    tie.close
    (tie.spec
    invariant-loop
    decreases-loop
    loop_holds
    (λ c. omega arith) (λ c. omega arith) (λ c. omega arith) put-number-requires
    (λ c. omega arith) loop_again
    same_length
    returns)
