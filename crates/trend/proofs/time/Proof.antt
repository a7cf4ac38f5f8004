-- `trend::time` meets its contract: a quotient far from the range holds the time at an end of it. Assumes nothing.
-- A walk: tried without, and as answers to its goals, and it did not close.
use mathlib.Core.Path.{◌≡◌, ap, ◌∙◌}
use Prim.Native.Nat.{ℕ, ◌+◌, ◌*◌, ◌^◌, ◌≤◌, ◌<◌}
use native.Mathlib.Omega.{arith}
use lib.IntN.{ℤ, pos, negsuc, nat_abs, ◌+ℤ◌, ◌*ℤ◌}
use mir.Syntax.{w64}
use mir.Val.{SFits, to_z, of_z}
use Rattle.whole.specs.Floor.{floor_div}
use Rattle.whole.proofs.Order.{le_z-true, le_z-false, lt_z-true, lt_z-false}
use Rattle.whole.proofs.Size.{abs_most, abs_add, fits_abs}
use Rattle.whole.proofs.Words.{Holds, nat_holds, fit_holds, op_fits, op_holds}
use Rattle.trend.specs.Result.{rounded_up, in_range, time_of}
use Rattle.trend.proofs.Words.{told, times_fits, times_holds}
use Rattle.trend.proofs.Rounding.{Divided, divided, rounded_most, far_above, far_below}
use borrow.Author.Rules.{rules, sfits_of}
use Rattle.trend.proofs.time.Statement.{statement}
use Rattle.trend.proofs.time.Tie as tie

module _ (c : tie.Start) where
  x_holds : Holds w64 (of_z w64 c.args.x) c.args.x
  x_holds = fit_holds c.ranges.x

  y_holds : Holds w64 (of_z w64 c.args.y) c.args.y
  y_holds = fit_holds c.ranges.y

  hundred : 100 * nat_abs c.args.x < 2 ^ 63
  hundred = omega (arith, c.requires.1.dividend)

  hundred_holds : Holds w64 (of_z w64 (pos 100 *ℤ to_z w64 (of_z w64 c.args.x))) (pos 100 *ℤ c.args.x)
  hundred_holds = times_holds 100 x_holds (omega arith) hundred

mul-floor-div : tie.Need-overflow_mul-x
mul-floor-div c = times_fits 100 (x_holds c) (omega arith) (hundred c)

module _ (c : tie.After-floor_div-quotient) where
  abbrev x : ℤ
  x = c.args.x

  abbrev y : ℤ
  y = c.args.y

  abbrev q : ℤ
  q = c.floor_div-quotient.result

  q_holds : Holds w64 (of_z w64 q) q
  q_holds = fit_holds (sfits_of c.floor_div-quotient.type_inv)

  q_is : q ≡ floor_div (pos 100 *ℤ x) y
  q_is = c.floor_div-quotient.ensures ∙ rw ((hundred_holds c.before).reads, (y_holds c.before).reads)

  by : Divided x y q
  by = divided x y q c.requires.1.above q_is

returns : tie.Need-returns-then-quotient-ge240
returns c =
    let f = c.before in
    far_above (by f) f.args.init (le_z-true (pos 240) (q f) (rw (q_holds f).reads at c.if-quotient-ge240.true))

returns-2 : tie.Need-returns-then-quotient-ltminus1000
returns-2 c =
    let f = c.before.before in
    far_below (by f) f.args.init f.requires.0 (lt_z-true (q f) (negsuc 999) (rw (q_holds f).reads at c.if-quotient-ltminus1000.true))

near : (c : tie.Else-quotient-ltminus1000) → nat_abs (q c.before.before) ≤ 1000
near c =
    let f = c.before.before in
    let most = le_z-false (pos 240) (q f) (rw (q_holds f).reads at c.if-quotient-ge240.false) in
    let least = lt_z-false (q f) (negsuc 999) (rw (q_holds f).reads at c.if-quotient-ltminus1000.false) in
    abs_most (q f) 1000 (omega arith) (omega arith)

rounded-up-requires : tie.Need-rounded_up-requires
rounded-up-requires c κs =
    let f = c.before.before in
    rw ((x_holds f.before).reads, (y_holds f.before).reads, (q_holds f).reads)
    record { fraction = f.requires.1; down = q_is f; within = near c }

module _ (c : tie.After-rounded_up) where
  abbrev divided_by : tie.After-floor_div-quotient
  divided_by = c.before.before.before

  abbrev late : ℕ
  late = 1000 * (divided_by.args.init + 1)

  abbrev rounded : ℤ
  rounded = rounded_up (pos 100000 *ℤ x divided_by) (y divided_by)

  rounded_holds : Holds w64 (of_z w64 c.rounded_up.result) rounded
  rounded_holds =
      told (sfits_of c.rounded_up.type_inv)
      (rw ((x_holds divided_by.before).reads, (y_holds divided_by.before).reads) at c.rounded_up.ensures)

  late_holds : Holds w64 late (pos late)
  late_holds = nat_holds (omega (arith, divided_by.requires.0))

  ms_fits : SFits w64 (pos late +ℤ rounded)
  ms_fits =
      fits_abs
      (omega (arith, divided_by.requires.0, abs_add (pos late) rounded, rounded_most (by divided_by) (near c.before)))

add-in-range-2 : tie.Need-overflow_add-init-2
add-in-range-2 c = op_fits ◌+ℤ◌ (late_holds c) (rounded_holds c) (ms_fits c)

returns-3 : tie.Need-returns
unfolding time_of
returns-3 c =
    let r = c.before in
    c.in_range.ensures ∙ ap (λ (z : ℤ). in_range z) (op_holds ◌+ℤ◌ (late_holds r) (rounded_holds r) (ms_fits r)).reads

pub time_spec : {M : Type 1} → statement M
time_spec =
    tie.close
    (tie.spec mul-floor-div (λ c κs. search rules) returns returns-2 (λ c. search rules) (λ c. search rules) (λ c. search rules)
    rounded-up-requires add-in-range-2 (λ c κs. search rules) returns-3)
