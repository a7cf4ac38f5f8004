-- What blocks that are sound have, and what decides it where there are none, too many, or some. Assumes nothing.
use mathlib.Core.Path.{◌≡◌, refl, sym, ap, ap₂, ◌∙◌}
use mathlib.Core.Bool.{Bool, true, false, ◌&&◌, ◌||◌, cond, and-true, and-false}
use mathlib.Core.List.{List, []}
use Prim.Native.Nat.{ℕ, ◌≤◌, ◌<◌}
use native.Mathlib.Decide.{dec_lt}
use native.Mathlib.Omega.{arith}
use lib.Dec.{leb, eqb}
use lib.ListN.{length, get_or, get_or-eq_default}
use borrow.Author.Tests.{leb-true, eqb-true, lt-ltb, le-ltb, le-leb, lt-leb, eq-eqb, ne_eqb}
use Rattle.bits.proofs.Ranges.{and-true_left, and-true_right}
use Rattle.bits.proofs.UpTo.{length-up_to}
use Rattle.table.specs.Table.{part_at}
use Rattle.table.proofs.Judging.{every_at, every_same}
use Rattle.blocks.specs.declared.Blocks.{Blocks}
use Rattle.blocks.specs.Blocks.{most, none, length_of, weight_of, placed, place_right, each_right, sums_right, is_sound, fields_at, lay_of, of_lists}
use Rattle.blocks.specs.Steps.{empty_at, empty}
use Rattle.blocks.specs.Sound.{Sound}

pub placed_is : (b : Blocks) → length b.lengths ≡ most → length b.weights ≡ most → placed b ≡ true
unfolding placed
placed_is b h i = ap₂ ◌&&◌ (eq-eqb _ _ h) (eq-eqb _ _ i)

module _ (b : Blocks) (l w : ℕ) where
  -- ---- what decides it

  each_none : b.count ≡ 0 → each_right b ≡ empty b.lengths b.weights
  unfolding each_right empty place_right
  each_none e =
      every_same most (place_right b) (empty_at b.lengths b.weights)
      (λ k h. ap (λ (x : Bool). cond x (leb 1 (length_of b k) && leb 1 (weight_of b k)) (eqb (length_of b k) 0 && eqb (weight_of b k) 0)) (le-ltb k b.count (omega arith)))

  -- where there are none
  pub sound_none : placed b ≡ true → b.count ≡ 0 → is_sound b l w ≡ empty b.lengths b.weights
  unfolding is_sound
  sound_none p e =
      ap₂ (λ (x : Bool) (n : ℕ). x && leb n most && each_right b && (eqb n 0 || sums_right b l w)) p e
      ∙ and-true (each_right b)
      ∙ each_none e

  -- too many
  pub sound_many : most < b.count → is_sound b l w ≡ false
  unfolding is_sound
  sound_many h =
      ap (λ (x : Bool). placed b && x && each_right b && (eqb b.count 0 || sums_right b l w)) (lt-leb b.count most h)
      ∙ ap (λ (x : Bool). x && each_right b && (eqb b.count 0 || sums_right b l w)) (and-false (placed b))

  -- some
  pub sound_some : placed b ≡ true → 0 < b.count → b.count ≤ most → is_sound b l w ≡ each_right b && sums_right b l w
  unfolding is_sound
  sound_some p h m =
      ap (λ (x : Bool). x && leb b.count most && each_right b && (eqb b.count 0 || sums_right b l w)) p
      ∙ ap₂ (λ (x y : Bool). x && each_right b && (y || sums_right b l w)) (le-leb b.count most m) (ne_eqb b.count 0 (λ e. omega arith))

  -- ---- what it tells

  module _ (h : is_sound b l w ≡ true) where
    front : placed b && leb b.count most && each_right b ≡ true
    unfolding is_sound
    front = and-true_left (placed b && leb b.count most && each_right b) _ h

    -- 64 places of each
    pub sound_placed : placed b ≡ true
    sound_placed = and-true_left (placed b) (leb b.count most) (and-true_left (placed b && leb b.count most) (each_right b) front)

    pub sound_places : (length b.lengths ≡ most) × (length b.weights ≡ most)
    unfolding placed
    sound_places =
        let x = eqb (length b.lengths) most in
        let y = eqb (length b.weights) most in
        (eqb-true _ _ (and-true_left x y sound_placed), eqb-true _ _ (and-true_right x y sound_placed))

    pub sound_few : b.count ≤ most
    sound_few = leb-true _ _ (and-true_right (placed b) (leb b.count most) (and-true_left (placed b && leb b.count most) (each_right b) front))

    place_right_lem : (k : ℕ) → k < most → place_right b k ≡ true
    unfolding each_right
    place_right_lem k m = every_at most k (place_right b) m (and-true_right (placed b && leb b.count most) (each_right b) front)

    held_right : (k : ℕ) → k < b.count → leb 1 (length_of b k) && leb 1 (weight_of b k) ≡ true
    unfolding place_right
    held_right k m =
        ap (λ (x : Bool). cond x (leb 1 (length_of b k) && leb 1 (weight_of b k)) (eqb (length_of b k) 0 && eqb (weight_of b k) 0)) (sym (lt-ltb k b.count m))
        ∙ place_right_lem k (omega (arith, sound_few))

    past_right : (k : ℕ) → b.count ≤ k → k < most → eqb (length_of b k) 0 && eqb (weight_of b k) 0 ≡ true
    unfolding place_right
    past_right k m i =
        ap (λ (x : Bool). cond x (leb 1 (length_of b k) && leb 1 (weight_of b k)) (eqb (length_of b k) 0 && eqb (weight_of b k) 0)) (sym (le-ltb k b.count m))
        ∙ place_right_lem k i

    -- past the last block nothing stands
    pub past_zero : (k : ℕ) → b.count ≤ k → (length_of b k ≡ 0) × (weight_of b k ≡ 0)
    past_zero k m = by (dec_lt k most)
      where
        by : Dec (k < most) → (length_of b k ≡ 0) × (weight_of b k ≡ 0)
        by (yes i) =
            let x = eqb (length_of b k) 0 in
            let y = eqb (weight_of b k) 0 in
            (eqb-true _ _ (and-true_left x y (past_right k m i)), eqb-true _ _ (and-true_right x y (past_right k m i)))
        by (no i) =
            (get_or-eq_default b.lengths 0 (omega (arith, sound_places.0)), get_or-eq_default b.weights 0 (omega (arith, sound_places.1)))

    sums : 0 < b.count → sums_right b l w ≡ true
    unfolding is_sound
    sums m =
        ap (λ (x : Bool). x || sums_right b l w) (sym (ne_eqb b.count 0 (λ e. omega arith)))
        ∙ and-true_right (placed b && leb b.count most && each_right b) _ h

    pub sound : Sound b l w
    unfolding sums_right
    sound = record {
      few = sound_few;
      each_length = λ k m. leb-true 1 (length_of b k) (and-true_left _ (leb 1 (weight_of b k)) (held_right k m));
      each_weight = λ k m. leb-true 1 (weight_of b k) (and-true_right (leb 1 (length_of b k)) _ (held_right k m));
      lengths = λ m. eqb-true _ _ (and-true_left _ (eqb _ w) (sums m));
      weights = λ m. eqb-true _ _ (and-true_right (eqb _ l) _ (sums m));
      lengths_64 = sound_places.0;
      weights_64 = sound_places.1;
    }

-- ---- values that are known

-- no block at all is sound, and it is what no bytes lay out as
pub none_sound : (l w : ℕ) → is_sound none l w ≡ true
unfolding none placed place_right each_right is_sound
none_sound l w = refl

pub laid_none : lay_of [] ≡ none
unfolding none lay_of part_at
laid_none = refl

pub none_count : none.count ≡ 0
unfolding none
none_count = refl

-- blocks that are laid out, from bytes or from lists, have their places
pub laid_placed : (s : List ℕ) → placed (lay_of s) ≡ true
unfolding placed lay_of
laid_placed s = ap₂ ◌&&◌ (eq-eqb _ most (length-up_to (λ k. get_or (fields_at s k) 0 0) most)) (eq-eqb _ most (length-up_to (λ k. get_or (fields_at s k) 1 0) most))

pub listed_placed : (lengths weights : List ℕ) → placed (of_lists lengths weights) ≡ true
unfolding placed of_lists
listed_placed lengths weights = ap₂ ◌&&◌ (eq-eqb _ most (length-up_to (λ k. get_or lengths k 0) most)) (eq-eqb _ most (length-up_to (λ k. get_or weights k 0) most))
