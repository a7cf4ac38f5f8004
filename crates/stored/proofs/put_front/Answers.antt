-- The fields, the consist without its blocks and the check word, one after the other.
use mathlib.Core.Path.{◌≡◌, refl, ap, ap₂, ◌∙◌}
use Prim.Native.Nat.{ℕ, ◌+◌, ◌≤◌}
use native.Mathlib.Omega.{arith}
use mathlib.Core.Bool.{true, false, not}
use mathlib.Core.List.{List, ◌++◌, append-nil}
use lib.ListN.{length, take, drop, length-take, length-drop, drop_of_length-le}
use lib.Seq.{drop-drop}
use borrow.Author.Tests.{le-ltb}
use Rattle.bits.specs.Bytes.{Bytes, bytes_from}
use Rattle.bits.specs.Places.{put_from}
use Rattle.bits.proofs.Parts.{put_part}
use Rattle.bits.proofs.Places.{put_all}
use Rattle.refusal.specs.Written.{no_room}
use Rattle.seal.specs.Seal.{resealed}
use Rattle.seal.proofs.Seals.{resealed_over}
use Rattle.blocks.specs.Blocks as blocks
use Rattle.blocks.specs.Blocks.{none, bytes_to}
use Rattle.consist.specs.declared.Consist.{Consist}
use Rattle.consist.specs.Consist as consist
use Rattle.consist.proofs.Answers as consist_answers
use Rattle.consist.proofs.Sound as consist_sound
use Rattle.session.specs.declared.Session.{Session}
use Rattle.session.specs.Session.{is_open}
use Rattle.session.proofs.Opened.{opened}
use Rattle.held.specs.Held as held
use Rattle.held.specs.Held.{size, widths, fields_of, front_of}
use Rattle.held.proofs.Answers.{fits}
use Rattle.stored.proofs.put_front.Goals as goal

module _ (x : Session) (o : is_open x ≡ true) where
  abbrev alone : Consist
  alone = consist.alone x.consist

  -- without its blocks the consist fills 16 bytes
  consist_put : (t : List ℕ) → length t ≡ 16 → (consist.write_consist alone t).1 ≡ consist.front_of x.consist
  unfolding no_room none bytes_to blocks.bytes_of consist.bytes_of consist.front_of consist.in_range consist.too_light
  consist_put t e =
      let c = consist_sound.is_sound_lem x.consist (opened x o).tested in
      (λ i. (consist_answers.write_is alone t false false false false c.0 c.1 (le-ltb (length t) 16 (omega (arith, e))) (ap not (consist_sound.alone_sound x.consist)) i).1)
      ∙ (λ i. consist.front_of x.consist ++ drop_of_length-le t {i = 16} (omega (arith, e)) i)
      ∙ append-nil (consist.front_of x.consist)

  all_put : (out fields behind whole : List ℕ) (c : Consist) → Bytes out → size ≤ length out → fields ≡ put_from 0 widths (fields_of x) out
      → c ≡ alone
      → behind ≡ (consist.write_consist c (take 16 (drop held.own fields))).1
      → whole ≡ resealed (take size (take held.own fields ++ (behind ++ drop 16 (drop held.own fields))))
      → whole ++ drop size (take held.own fields ++ (behind ++ drop 16 (drop held.own fields))) ≡ front_of x ++ drop size out
  unfolding front_of consist.front_of
  all_put out fields behind whole c b room f a p w =
      let own = bytes_from held.own widths (fields_of x) in
      let first : fields ≡ own ++ drop held.own out = f ∙ put_all held.own widths (fields_of x) out tt refl (fits x o) b (omega arith) in
      let rest : drop held.own fields ≡ drop held.own out = ap (drop held.own) first in
      let l : length (take 16 (drop held.own fields)) ≡ 16 = ap (λ (t : List ℕ). length (take 16 t)) rest ∙ simp (length-take, length-drop) (omega arith) in
      let put = p ∙ ap (λ (d : Consist). (consist.write_consist d (take 16 (drop held.own fields))).1) a ∙ consist_put (take 16 (drop held.own fields)) l in
      let both = put_part out own fields held.own refl first behind 16 ∙ (λ i. (own ++ put i) ++ drop (held.own + 16) out) in
      let seal = resealed_over (own ++ consist.front_of x.consist) (take 4 (drop (held.own + 16) out)) (simp (length-take, length-drop) (omega arith)) in
      ap₂ ◌++◌ (w ∙ (λ i. resealed (take size (both i))) ∙ seal) (ap (drop size) both ∙ drop-drop 4 (held.own + 16) out)

pub returns : goal.returns
returns c =
    let a = c.args in
    all_put a.x.now c.requires.opened a.out.now _ _ _ _ (λ i. grind arith) c.requires.room
    c.put_own.ensures
    c.alone.ensures
    (λ i. (c.write.ensures i).1)
    c.put_check_word.ensures
