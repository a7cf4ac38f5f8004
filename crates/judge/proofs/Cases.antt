-- No location is beyond every target, and no train is stopped for a target that it is nowhere faster than. Assumes nothing.
use mathlib.Core.Path.{◌≡◌, refl, sym, ◌∙◌}
use mathlib.Core.Bool.{Bool, true, false, ◌&&◌, and-false, true≢false}
use Prim.Native.Nat.{ℕ, ◌+◌, ◌*◌, ◌≤◌}
use native.Mathlib.Nat.{mul-le-mul}
use native.Mathlib.Omega.{arith}
use lib.Dec.{leb, ltb}
use borrow.Author.Tests.{lt-ltb, le-ltb, le-leb, leb-true, leb-false}
use Rattle.record.specs.Location.{no_stop}
use Rattle.consist.specs.declared.Consist.{Consist}
use Rattle.step.specs.Step.{steps_most, Ground}
use Rattle.walk.specs.Walk.{reach, stays, start, arrival_for}
use Rattle.walk.proofs.Equations.{stays_above, walk_at}
use Rattle.judge.specs.Judge.{is_judged, offset_for, is_called, is_emergency_called}
use Rattle.judge.specs.Cases.{NoneIsBeyond, NoOffset, NowhereFaster, NoStopIsPast}
use Rattle.judge.proofs.Offsets.{offset_none}

pub none_is_beyond : NoneIsBeyond
unfolding NoneIsBeyond is_called
none_is_beyond offset head v target u h judged = rw (judged, lt-ltb target (no_stop + offset_for offset v u) (omega arith))

pub no_offset : NoOffset
unfolding NoOffset
no_offset = offset_none

-- a target that is judged is not behind the head
past_head : (head target : ℕ) → is_judged head target && ltb target (head + 0) ≡ false
unfolding is_judged
past_head head target = go (leb head target) refl
  where
    go : (b : Bool) → leb head target ≡ b → b && leb target (head + reach) && ltb target (head + 0) ≡ false
    go true e = rw (le-ltb target (head + 0) (omega (arith, leb-true head target e)), and-false)
    go false e = refl

-- a walk that stays at or below u began so
no_faster : (c : Consist) (force : ℕ → ℕ) (ground : Ground) (head v u : ℕ) → stays c force ground (u * u) steps_most (start head v) ≡ true → v ≤ u
no_faster c force ground head v u e = by (leb v u) refl
  where
    by : (b : Bool) → leb v u ≡ b → v ≤ u
    by true h = leb-true v u h
    by false h =
        let above = leb-false v u h in
        absurd (true≢false (sym e ∙ stays_above c force ground (u * u) (start head v) steps_most (omega (arith, mul-le-mul above above))))

pub nowhere_faster : NowhereFaster
unfolding NowhereFaster is_called arrival_for
nowhere_faster c force ground offset head v target u e =
    rw (walk_at c force ground (u * u) (start head v) steps_most e, offset_none offset v u (no_faster c force ground head v u e)) (past_head head target)

pub no_stop_is_past : NoStopIsPast
unfolding NoStopIsPast is_emergency_called
no_stop_is_past head target h judged = rw (judged, le-leb target no_stop (omega arith))
