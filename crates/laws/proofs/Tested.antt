-- Within 01's limits the test for 11 finds nothing: the squared speed has no room to reach its bound in the steps left. Assumes nothing.
use mathlib.Core.Path.{◌≡◌, refl}
use mathlib.Core.Bool.{Bool, true, false, cond}
use Prim.Native.Nat.{ℕ, zero, suc, ◌+◌, ◌*◌, ◌≤◌}
use native.Mathlib.Nat.{mul-le-mul}
use native.Mathlib.Omega.{arith}
use lib.Dec.{leb}
use lib.IntN.{ℤ, pos, negsuc}
use borrow.Author.Tests.{le-leb, le-ltb}
use Rattle.whole.specs.Floor.{cut}
use Rattle.consist.specs.declared.Consist.{Consist}
use Rattle.step.specs.Step.{steps_most, Ground, step_of}
use Rattle.step.specs.Gain.{gain_most, Limited, NoSteeper}
use Rattle.step.proofs.Gain.{gains}
use Rattle.walk.specs.Walk.{Arrival, at, arrival_by}
use Rattle.laws.specs.Literal.{step_z}
use Rattle.laws.specs.Crossing.{crossing_to, crossing_for}
use Rattle.laws.specs.Tested.{bound, Tested, answered, walk_tested, TestIdle}

-- slow enough, or what the rest answers
either : (b : Bool) (h : ℕ) (rest : Tested) (a : Arrival) → rest ≡ answered a → cond b (answered (at h)) rest ≡ answered (arrival_by b h a)
either true h rest a e = refl
either false h rest a e = e

module _ (c : Consist) (force : ℕ → ℕ) (ground : Ground) (limited : Limited c) (steep : NoSteeper ground) (limit : ℕ) where
  idle : (n head clock : ℕ) (q : ℤ) → cut q + gain_most * n ≤ bound →
      walk_tested c force ground limit n (record { head = head; clock = clock; q = q })
      ≡ answered (crossing_to c force ground limit n (record { head = head; clock = clock; q = cut q }))
  unfolding walk_tested crossing_to step_z step_of
  idle zero head clock (pos a) h = rw (le-ltb bound a (omega arith)) (either (leb a limit) head _ _ refl)
  idle zero head clock (negsuc a) h = rw (le-leb 0 limit (omega arith)) refl
  idle (suc n) head clock (pos a) h =
      let gained = gains c force ground limited steep (record { head = head; clock = clock; q = a }) in
      rw (le-ltb bound a (omega arith)) (either (leb a limit) head _ _ (idle n _ _ _ (omega (arith, gained))))
  idle (suc n) head clock (negsuc a) h = rw (le-leb 0 limit (omega arith)) refl

pub test_idle : TestIdle
unfolding TestIdle crossing_for
test_idle c force ground head v u limited steep h = idle c force ground limited steep (u * u) steps_most head 0 (pos (v * v)) (omega (arith, mul-le-mul h h))
