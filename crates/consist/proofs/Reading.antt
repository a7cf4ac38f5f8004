-- What each step of the reader finds, of the consist that the bytes stand for. Assumes nothing.
use mathlib.Core.Path.{◌≡◌, ap, ap₂, ◌∙◌}
use mathlib.Core.Bool.{Bool, false, not}
use mathlib.Core.List.{List}
use Prim.Native.Nat.{ℕ, ◌-◌, ◌≤◌}
use native.Mathlib.Nat.{le_of_eq}
use native.Mathlib.Omega.{arith}
use lib.ListN.{length, length-drop, take, drop}
use lib.Seq.{take_all, length-take-le}
use borrow.Author.Tests.{ltb-false}
use Rattle.bits.specs.Places.{fields_from}
use Rattle.bits.proofs.Places.{fields_from_lem}
use Rattle.blocks.specs.declared.Blocks.{Blocks}
use Rattle.blocks.specs.Blocks as blocks
use Rattle.consist.specs.declared.Consist.{Consist}
use Rattle.consist.specs.Consist.{size, widths, of_fields, with_blocks, alone, consist_in, in_range, out_of_range, too_light, broken_behind, too_short}
use Rattle.consist.proofs.Sound.{alone_range, alone_light}

module _ (s : List ℕ) (h : too_short s ≡ false) where
  pub long : size ≤ length s
  unfolding too_short
  long = ltb-false (length s) size h

  -- the bytes behind the front
  abbrev pub behind : List ℕ
  behind = take (length s - size) (drop size s)

  behind_is : behind ≡ drop size s
  behind_is = take_all (length s - size) (drop size s) (le_of_eq (length-drop size s))

  module _ (x : Consist) (read : x ≡ of_fields (fields_from 0 widths (take size s))) where
    front_is : x ≡ alone (consist_in s)
    unfolding consist_in
    front_is = read ∙ ap of_fields (fields_from_lem 0 widths (take size s) tt (omega (arith, length-take-le size s long)))

    pub range_is : (b : Bool) → b ≡ in_range x → not b ≡ out_of_range (consist_in s)
    range_is b e = ap not e ∙ ap out_of_range front_is ∙ alone_range _

    pub light_is : (b : Bool) → b ≡ too_light x → b ≡ too_light (consist_in s)
    light_is b e = e ∙ ap too_light front_is ∙ alone_light _

    pub broken_is : (b : Bool) → b ≡ blocks.is_broken behind x.length x.weight → b ≡ broken_behind s
    unfolding broken_behind
    broken_is b e =
        e
        ∙ ap (λ (y : List ℕ). blocks.is_broken y x.length x.weight) behind_is
        ∙ ap (λ (y : Consist). blocks.is_broken (drop size s) y.length y.weight) front_is

    pub whole_is : (b : Blocks) → b ≡ blocks.lay_of behind → with_blocks x b ≡ consist_in s
    unfolding consist_in
    whole_is b e = ap₂ with_blocks front_is (e ∙ ap blocks.lay_of behind_is)
