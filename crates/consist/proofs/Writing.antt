-- What the writer has put where every rule has passed. Assumes nothing.
use mathlib.Core.Path.{◌≡◌, refl, ap, ◌∙◌}
use mathlib.Core.Bool.{false, true}
use mathlib.Core.List.{List, ◌++◌}
use Prim.Native.Nat.{ℕ, ◌-◌, ◌*◌, ◌≤◌}
use native.Mathlib.Omega.{arith}
use lib.ListN.{length, length-take, length-drop, take, drop}
use borrow.Author.Tests.{ltb-false}
use Rattle.bits.specs.Bytes.{Bytes}
use Rattle.bits.specs.Places.{put_from}
use Rattle.bits.proofs.Places.{put_all}
use Rattle.refusal.specs.Written.{no_room}
use Rattle.blocks.specs.Blocks as blocks
use Rattle.blocks.proofs.Sound.{sound_few}
use Rattle.consist.specs.declared.Consist.{Consist}
use Rattle.consist.specs.Consist.{size, size_of, widths, fields_of, front_of, out_of_range, sound_blocks}
use Rattle.consist.proofs.Answers.{fits}
use Rattle.consist.proofs.Bytes.{length_kept}

module _ (x : Consist) (out : List ℕ) (room : no_room (size_of x) out ≡ false) where
  space : size_of x ≤ length out
  unfolding no_room
  space = ltb-false _ _ room

  -- the front is put over `out` in two parts
  module _ (range : out_of_range x ≡ false) (bytes : Bytes out) (first front : List ℕ) (f : first ≡ put_from 0 (take 5 widths) (take 5 (fields_of x)) out)
      (b : front ≡ put_from 74 (drop 5 widths) (drop 5 (fields_of x)) first) where
    pub front_put : front ≡ front_of x ++ drop size out
    unfolding front_of
    front_put = b ∙ ap (put_from 74 (drop 5 widths) (drop 5 (fields_of x))) f ∙ put_all size widths (fields_of x) out tt refl (fits x range) bytes (omega (arith, space))

    pub kept : length front ≡ length out
    kept = length_kept x out front (omega (arith, space)) front_put

    pub long : size ≤ length front
    long = omega (arith, space, kept)

    pub blocks_room : blocks.size * x.blocks.count ≤ length (take (length front - size) (drop size front))
    blocks_room = simp (length-take, length-drop) (omega (arith, space, kept))

pub few : (x : Consist) → sound_blocks x ≡ true → x.blocks.count ≤ blocks.most
unfolding sound_blocks
few x h = sound_few _ _ _ h
