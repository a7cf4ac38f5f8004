-- Where starts rise, a segment's feet under a train reach from where it begins under it to where the next does. Assumes nothing.
use mathlib.Core.Path.{◌≡◌, ap}
use Prim.Native.Nat.{ℕ, zero, suc, ◌+◌, ◌-◌, ◌≤◌, ◌<◌}
use native.Mathlib.Numerals.{add-one}
use native.Mathlib.Omega.{arith}
use Rattle.track.specs.declared.Track.{Track}
use Rattle.track.specs.Track.{feet, segments}
use Rattle.track.specs.Rising.{Rising, clamp, start_under, feet_under, FeetClamped}

module _ (t : Track) (rear head : ℕ) (rising : Rising t) (h : rear ≤ head) where
  -- from one start under the train on to the next
  onward : (k : ℕ) → k < segments t → start_under t rear head k + feet t rear head k ≡ start_under t rear head (k + 1)
  unfolding clamp feet
  onward k l = omega (arith, rising.starts k l)

  summed : (n : ℕ) → n ≤ segments t → start_under t rear head 0 + feet_under t rear head n ≡ start_under t rear head n
  unfolding feet_under
  summed zero l = omega arith
  summed (suc n) l = omega (arith, summed n (omega arith), onward n l, ap (start_under t rear head) (add-one n))

  within : (n : ℕ) → n ≤ segments t → feet_under t rear head n ≤ head - rear
  unfolding clamp
  within n l = omega (arith, summed n l)

pub feet_clamped : FeetClamped
unfolding FeetClamped
feet_clamped t rear head rising h = record {
  each = λ k l. omega (arith, onward t rear head rising h k l);
  together = λ n l. omega (arith, summed t rear head rising h n l);
  at_most = within t rear head rising h;
}
