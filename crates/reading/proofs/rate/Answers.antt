-- `reading::rate` meets its contract: over 0 seconds, as in a first sample, the quotient is 0. Assumes nothing.
use mathlib.Core.Path.{◌≡◌, refl, ap, ◌∙◌}
use mathlib.Core.Bool.{Bool, true, false, cond}
use Prim.Native.Nat.{ℕ, ◌<◌}
use native.Mathlib.Omega.{arith}
use lib.IntN.{ℤ, pos, negsuc, ◌-ℤ◌}
use mir.Syntax.{w64}
use mir.Val.{SFits}
use mir.Facts.{to_z-of_z}
use borrow.Author.Rules.{sfits_of}
use Rattle.whole.specs.Floor.{floor_div}
use Rattle.whole.proofs.Size.{abs_sub, fits_abs}
use Rattle.whole.proofs.Words.{Holds, nat_holds, both, op_holds}
use Rattle.reading.specs.Readings.{elapsed_of, rate_of}
use Rattle.reading.proofs.rate.Goals as goal

none_elapsed : (z : ℤ) (sampled : Bool) (n : ℕ) → floor_div z (pos (cond sampled n 0)) ≡ cond sampled (floor_div z (pos (cond sampled n 0))) (pos 0)
unfolding floor_div
none_elapsed z true n = refl
none_elapsed (pos a) false n = refl
none_elapsed (negsuc a) false n = refl

difference : (front last : ℕ) → front < 65536 → last < 65536 → SFits w64 (pos front -ℤ pos last)
difference front last f l = fits_abs (omega (arith, abs_sub (pos front) (pos last)))

pub returns : goal.returns
unfolding elapsed_of rate_of
returns c =
    let front = c.args.m.front in
    let last = c.args.k.last_front in
    let z : ℤ = pos front -ℤ pos last in
    let held : Holds w64 front (pos front) = nat_holds (omega arith) in
    let before : Holds w64 last (pos last) = nat_holds (omega arith) in
    to_z-of_z {w = w64} {z = c.floor_div.result} (sfits_of c.floor_div.type_inv)
    ∙ c.floor_div.ensures
    ∙ both floor_div (op_holds ◌-ℤ◌ held before (difference front last (omega arith) (omega arith))) (nat_holds (omega (arith, c.elapsed.type_inv)))
    ∙ ap (λ (n : ℕ). floor_div z (pos n)) c.elapsed.ensures
    ∙ none_elapsed z c.args.k.sampled _
