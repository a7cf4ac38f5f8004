-- `shares::Shares::plus` meets its contract: totals and shares are small enough for their differences and sums. Assumes nothing.
-- A walk, of which a must-fail edit changes a line: tried without, and as answers to its goals, and it did not close.
use mathlib.Core.Path.{◌≡◌, ap, ap₂, ◌∙◌}
use Prim.Native.Nat.{ℕ, ◌+◌, ◌*◌, ◌≤◌}
use native.Mathlib.Omega.{arith}
use lib.IntN.{ℤ, ◌+ℤ◌, ◌-ℤ◌}
use mir.Syntax.{w64}
use mir.Val.{SFits, to_z, of_z}
use mir.Facts.{to_z-of_z}
use borrow.Author.Rules.{sfits_of}
use Rattle.whole.proofs.Size.{abs_add, fits_abs}
use Rattle.whole.proofs.Words.{Holds, fit_holds, op_fits, op_holds}
use Rattle.shares.specs.Steps.{grade_share_of}
use Rattle.shares.proofs.Bounds.{grade_most, curvature_most}
use Rattle.shares.proofs.Shares.plus.Statement.{statement}
use Rattle.shares.proofs.Shares.plus.Tie as tie

module _ (c : tie.Start) where
  abbrev at_front : ℤ
  at_front = c.args.front.grade

  abbrev at_rear : ℤ
  at_rear = c.args.rear.grade

  abbrev before : ℤ
  before = c.args.self.grade

  abbrev share : ℤ
  share = grade_share_of (at_front -ℤ at_rear) c.args.length c.args.weight

  front_holds : Holds w64 (of_z w64 at_front) at_front
  front_holds = fit_holds (fits_abs (omega (arith, c.requires.behind.sized_head.grade)))

  rear_holds : Holds w64 (of_z w64 at_rear) at_rear
  rear_holds = fit_holds (fits_abs (omega (arith, c.requires.behind.sized_rear.grade)))

  gain_fits : SFits w64 (at_front -ℤ at_rear)
  gain_fits = fits_abs (omega (arith, c.requires.gentle_grade))

  gained : to_z w64 (of_z w64 (to_z w64 (of_z w64 at_front) -ℤ to_z w64 (of_z w64 at_rear))) ≡ at_front -ℤ at_rear
  gained = (op_holds ◌-ℤ◌ front_holds rear_holds gain_fits).reads

  before_holds : Holds w64 (of_z w64 before) before
  before_holds = fit_holds (fits_abs (omega (arith, c.requires.small_grade)))

  sum_fits : SFits w64 (before +ℤ share)
  sum_fits =
      fits_abs
      (omega (
        arith,
        c.requires.small_grade,
        abs_add before share,
        grade_most (at_front -ℤ at_rear) c.args.length c.args.weight c.requires.gentle_grade,
      ))

-- the grade's share is found
module _ (c : tie.After-grade_share-grade) where
  abbrev start : tie.Start
  start = c.before.before.before.before.before

  share_holds : Holds w64 (of_z w64 c.grade_share-grade.result) (share start)
  share_holds = record {
    reads =
        to_z-of_z {w = w64} (sfits_of c.grade_share-grade.type_inv)
        ∙ c.grade_share-grade.ensures
        ∙ ap (λ (z : ℤ). grade_share_of z start.args.length start.args.weight) (gained start);
  }

-- the curvature's is found too
abbrev with_grade : tie.After-curvature_share-curvature → tie.After-grade_share-grade
with_grade c = c.before.before.before

curvature_is : (c : tie.After-curvature_share-curvature) → let a = (start (with_grade c)).args in
    c.curvature_share-curvature.result ≤ 2000 * a.weight
curvature_is c =
    let s = start (with_grade c) in
    omega (
      arith,
      c.curvature_share-curvature.ensures,
      curvature_most _ s.args.length s.args.weight s.requires.gentle_curvature,
    )

sub-grade-share : tie.Need-overflow_sub-front
sub-grade-share c = let s = c.before.before.before.before in op_fits ◌-ℤ◌ (front_holds s) (rear_holds s) (gain_fits s)

grade-share-requires : tie.Need-grade_share-grade-requires
grade-share-requires c κs = let s = c.before.before.before.before in rw (gained s) s.requires.gentle_grade

sub-curvature-share : tie.Need-overflow_sub-front-2
sub-curvature-share c = let s = start c.before.before in omega (arith, s.requires.behind.rises)

curvature-share-requires : tie.Need-curvature_share-curvature-requires
curvature-share-requires c κs = let s = start c.before.before in (s.requires.gentle_curvature, s.requires.long)

add-t8 : tie.Need-overflow_add-result
add-t8 c =
    let g = with_grade c.before.before in
    op_fits ◌+ℤ◌ (before_holds (start g)) (share_holds g) (sum_fits (start g))

add-t9 : tie.Need-overflow_add-result-2
add-t9 c =
    let k = c.before.before.before in
    omega (arith, (start (with_grade k)).requires.small_curvature, curvature_is k)

returns : tie.Need-returns
returns c =
    let k = c.before.before.before in
    let g = with_grade k in
    ap₂ (λ (z : ℤ) (n : ℕ). record { grade = z; curvature = n })
    (op_holds ◌+ℤ◌ (before_holds (start g)) (share_holds g) (sum_fits (start g))).reads
    (ap (λ (n : ℕ). (start g).args.self.curvature + n) k.curvature_share-curvature.ensures)

pub plus_spec : {M : Type 1} → statement M
plus_spec =
    tie.close
    (tie.spec sub-grade-share grade-share-requires sub-curvature-share curvature-share-requires add-t8 add-t9 returns)
