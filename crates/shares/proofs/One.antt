-- One block answers as none. Assumes nothing.
use mathlib.Core.Path.{◌≡◌, sym, ap, ap₂, ◌∙◌}
use Prim.Native.Nat.{ℕ, ◌+◌, ◌-◌, ◌*◌, ◌/◌, ◌<◌}
use native.Mathlib.Nat.{zero-add}
use native.Mathlib.Omega.{arith}
use lib.IntN.{ℤ, pos, ◌+ℤ◌, ◌*ℤ◌}
use Rattle.whole.specs.Floor.{floor_div}
use Rattle.whole.proofs.Parts.{parts_eq, add_parts}
use Rattle.blocks.specs.Blocks.{length_of, weight_of, sum_to}
use Rattle.track.specs.declared.Track.{Track}
use Rattle.track.specs.Track.{segments, grade_feet, curvature_feet, grade_under, curvature_under}
use Rattle.shares.specs.Shares.{grade_share, curvature_share, grade_shares, ground_under}
use Rattle.shares.specs.Bounds.{OneAsNone}
use Rattle.shares.proofs.Nested.{floor_twice, div_twice}

none_before : (z : ℤ) → pos 0 +ℤ z ≡ z
none_before z = parts_eq (pos 0 +ℤ z) z (omega (arith, add_parts (pos 0) z))

-- a block from l behind the front up to it, alone in its train
module _ (t : Track) (head rear front l w : ℕ) (some : 0 < w) (long : 0 < l) (behind : rear ≡ head - l) (ahead : front ≡ head) where
  grade_is : floor_div (pos 0 +ℤ floor_div (pos w *ℤ (pos 100 *ℤ grade_feet t rear front (segments t))) (pos l)) (pos w) ≡ grade_under t head l
  unfolding grade_under
  grade_is = rw (behind, ahead) (ap (λ (z : ℤ). floor_div z (pos w)) (none_before _) ∙ floor_twice (pos 100 *ℤ grade_feet t (head - l) head (segments t)) w l some long)

  curvature_is : (0 + w * curvature_feet t rear front (segments t) / l) / w ≡ curvature_under t head l
  unfolding curvature_under
  curvature_is =
      rw (behind, ahead)
      (ap (λ (n : ℕ). n / w) (zero-add _) ∙ div_twice (curvature_feet t (head - l) head (segments t)) w l some long)

pub one_as_none : OneAsNone
unfolding OneAsNone ground_under grade_shares grade_share curvature_share sum_to
one_as_none t head length weight b sound one =
    let some : 0 < b.count = omega (arith, one) in
    let l : length_of b 0 ≡ length = sym (zero-add _) ∙ (rw one at (sound.lengths some)) in
    let w : weight_of b 0 ≡ weight = sym (zero-add _) ∙ (rw one at (sound.weights some)) in
    let rear : head - (0 + length_of b 0) ≡ head - length_of b 0 = omega arith in
    let front : head - 0 ≡ head = omega arith in
    rw (one, ← w, ← l)
    (ap₂ (λ (z : ℤ) (n : ℕ). record { grade = z; curvature = n })
    (grade_is t head _ _ (length_of b 0) (weight_of b 0) (sound.each_weight 0 some) (sound.each_length 0 some) rear front)
    (curvature_is t head _ _ (length_of b 0) (weight_of b 0) (sound.each_weight 0 some) (sound.each_length 0 some) rear front))
