-- The front, and what stands behind it.
use mathlib.Core.Path.{◌≡◌, sym, ap, ap₂, ◌∙◌}
use mathlib.Core.List.{List, ◌++◌}
use Prim.Native.Nat.{ℕ, ◌+◌, ◌-◌, ◌≤◌}
use native.Mathlib.Omega.{arith}
use lib.ListN.{length, take, drop, length-append, length-drop}
use lib.Seq.{length-take-le}
use Rattle.bits.proofs.Parts.{put_part}
use Rattle.blocks.specs.Blocks as blocks
use Rattle.session.specs.declared.Session.{Session}
use Rattle.held.specs.Held.{size, behind_for, size_of, front_of, behind_of, bytes_of}
use Rattle.held.proofs.Answers.{front_size, few}
use Rattle.stored.proofs.put.Goals as goal

-- the front is put, and `end` is the record's size
module _ (x : Session) (out l : List ℕ) (end : ℕ) (room : size_of x ≤ length out) (front : l ≡ front_of x ++ drop size out) (sized : end ≡ size_of x) where
  abbrev n : ℕ
  n = x.consist.blocks.count

  left : behind_for n ≤ length (drop size l)
  left =
      let e : length l ≡ size + (length out - size) = ap length front ∙ length-append (front_of x) (drop size out) ∙ ap₂ ◌+◌ (front_size x) (length-drop size out) in
      simp length-drop (omega arith)

  behind_room : behind_for n ≡ length (take (end - size) (drop size l))
  behind_room = let e : end - size ≡ behind_for n = omega arith in sym (ap (λ (k : ℕ). length (take k (drop size l))) e ∙ length-take-le (behind_for n) (drop size l) left)

  both_put : (z : List ℕ) → z ≡ behind_of n (blocks.bytes_of x.consist.blocks) → take size l ++ (z ++ drop (end - size) (drop size l)) ≡ bytes_of x ++ drop (size_of x) out
  unfolding bytes_of
  both_put z e =
      let k : size + (end - size) ≡ size_of x = omega arith in
      put_part out (front_of x) l size (front_size x) front z (end - size)
      ∙ ap₂ (λ (b : List ℕ) (m : ℕ). (front_of x ++ b) ++ drop m out) e k

pub put_behind-requires-clause-few : goal.put_behind-requires-clause-few
put_behind-requires-clause-few c = few c.args.x.now c.requires.opened

pub put_behind-requires-clause-room : goal.put_behind-requires-clause-room
put_behind-requires-clause-room c =
    behind_room c.args.x.now c.args.out.now _ _ c.requires.room c.put_front.ensures c.size_for-end.ensures

pub returns : goal.returns
returns c =
    both_put c.args.x.now c.args.out.now _ _ c.requires.room c.put_front.ensures c.size_for-end.ensures _ c.put_behind.ensures
