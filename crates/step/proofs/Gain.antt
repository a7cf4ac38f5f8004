-- What a step gains is at most what the steepest descent gives the heaviest train: in the force no other term pulls. Assumes nothing.
use mathlib.Core.Path.{refl}
use Prim.Native.Nat.{ℕ, zero, suc, ◌+◌, ◌*◌, ◌≤◌, ◌<◌}
use native.Mathlib.Nat.{mul-le-mul, mul-le-mul_left}
use native.Mathlib.Omega.{arith}
use lib.IntN.{ℤ, pos, negsuc, ◌+ℤ◌, ◌-ℤ◌, ◌*ℤ◌}
use lib.Signed.{◌≤ℤ◌}
use Rattle.whole.specs.Floor.{floor_div}
use Rattle.whole.specs.Root.{digits, root_of}
use Rattle.whole.proofs.Parts.{up, dn, up_mono, add_parts, sub_parts, times_up, times_dn}
use Rattle.whole.proofs.Order.{parts_le, le_parts}
use Rattle.whole.proofs.Size.{abs_parts}
use Rattle.whole.proofs.Floors.{floor_grows, floor_up, floor_dn}
use Rattle.blocks.specs.Sound.{Sound}
use Rattle.consist.specs.declared.Consist.{Consist}
use Rattle.track.specs.declared.Track.{Track}
use Rattle.track.specs.Gentle.{Gentle}
use Rattle.shares.specs.Shares.{ground_under}
use Rattle.shares.specs.Bounds.{GentleGround}
use Rattle.shares.proofs.Bounds.{gentle_ground}
use Rattle.step.specs.declared.Run.{Run}
use Rattle.step.specs.Step.{steps_most, Ground, ground_of, opposing, loss, step_time, step_of}
use Rattle.step.specs.Range.{square_most}
use Rattle.step.specs.Gain.{gain_most, Limited, NoSteeper, speed_most, after_steps, GainsAtMost, Reached}
use Rattle.step.proofs.Bounds.{drag}

-- a quotient down is no lower than -m where its dividend is no lower than -m times k
floor_least : (z : ℤ) (k m : ℕ) → 0 < k → dn z ≤ up z + k * m → dn (floor_div z (pos k)) ≤ up (floor_div z (pos k)) + m
floor_least z k m h l = omega (arith, floor_grows (pos 0) z k m h (omega (arith, l)), floor_up (pos 0) (pos k), floor_dn (pos 0) (pos k))

module _ (c : Consist) (limited : Limited c) (f s q k : ℕ) (g : ℤ) (steep : negsuc 49999 ≤ℤ g) where
  -- 1,449 times the force is no lower than -238,064 divisors
  pulled : let z = pos 1449 *ℤ opposing c f s q g k in dn z ≤ up z + 605000 * c.weight * gain_most
  unfolding opposing
  pulled =
      let d : ℕ = drag c f s q in
      let p : ℤ = pos (2000 * c.weight) *ℤ g in
      let b : ℕ = 8000 * (c.weight * k) in
      let fall : dn g ≤ 50000 + up g = omega (arith, le_parts steep) in
      omega (
        arith,
        times_up 1449 (pos d +ℤ p +ℤ pos b),
        times_dn 1449 (pos d +ℤ p +ℤ pos b),
        add_parts (pos d +ℤ p) (pos b),
        add_parts (pos d) p,
        times_up (2000 * c.weight) g,
        times_dn (2000 * c.weight) g,
        mul-le-mul_left c.weight fall,
        limited.heaviest,
        limited.axles,
      )

  loss_least : dn (loss c f s q g k) ≤ up (loss c f s q g k) + gain_most
  unfolding loss
  loss_least = floor_least (pos 1449 *ℤ opposing c f s q g k) (605000 * c.weight) gain_most (omega (arith, limited.lightest)) pulled

module _ (c : Consist) (force : ℕ → ℕ) (ground : Ground) (limited : Limited c) (steep : NoSteeper ground) where
  pub gains : (r : Run) → (step_of c force ground r).q ≤ r.q + gain_most
  unfolding step_of
  gains r =
      let l : ℤ = loss c (force r.clock) (root_of r.q) r.q (ground.grade r.head) (ground.curvature r.head) in
      up_mono (pos r.q -ℤ l) (pos (r.q + gain_most))
      (omega (
        arith,
        loss_least c limited (force r.clock) (root_of r.q) r.q (ground.curvature r.head) (ground.grade r.head) (steep.grade r.head),
        sub_parts (pos r.q) l,
      ))

  gains_after : (r : Run) (n : ℕ) → (after_steps c force ground n r).q ≤ r.q + gain_most * n
  unfolding after_steps
  gains_after r zero = omega arith
  gains_after r (suc n) = omega (arith, gains (after_steps c force ground n r), gains_after r n)

-- of n steps at most, from a speed within the limits
pub under_bound : (v n q : ℕ) → v ≤ speed_most → n ≤ steps_most → q ≤ v * v + gain_most * n → q ≤ square_most
under_bound v n q h l k = omega (arith, mul-le-mul h h)

pub gains_at_most : GainsAtMost
unfolding GainsAtMost
gains_at_most c force ground limited steep = record {
  each = gains c force ground limited steep;
  after = gains_after c force ground limited steep;
  under = λ r v n e h l. under_bound v n _ h l (omega (arith, e, gains_after c force ground limited steep r n));
}

-- the track of an accepted profile, under a consist whose blocks are right
pub gentle_no_steeper : (t : Track) (c : Consist) → Gentle t → Sound c.blocks c.length c.weight → NoSteeper (ground_of t c)
unfolding GentleGround
gentle_no_steeper t c gentle sound = record {
  grade = λ h.
      let g = (ground_under t h c.length c.weight c.blocks).grade in
      parts_le _ g (omega (arith, (gentle_ground t h c.length c.weight c.blocks gentle sound).grade, abs_parts g));
}

pub reached : Reached
unfolding floor_div digits root_of opposing loss step_time step_of after_steps
reached = record { step = refl; walk = refl }
