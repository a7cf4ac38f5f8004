-- What is written of a consist's fields and of two lists: where these can be blocks, what the consist's writer writes. Assumes nothing.
use mathlib.Core.Path.{◌≡◌, sym, ap, ap₂, ◌∙◌}
use mathlib.Core.Bool.{Bool, true, not, ◌&&◌}
use mathlib.Core.List.{List, [], ◌∷◌, ◌++◌}
use Prim.Native.Nat.{ℕ, ◌≤◌, min}
use native.Mathlib.Omega.{arith}
use lib.Dec.{leb, eqb}
use lib.ListN.{length}
use borrow.Author.Tests.{leb-true, le-ltb}
use Rattle.bits.proofs.Ranges.{and-true_right}
use Rattle.refusal.specs.Lowest.{lowest}
use Rattle.refusal.specs.Number.{told}
use Rattle.refusal.specs.Written.{no_room, written}
use Rattle.refusal.specs.declared.Refusal.TheVariants.{NoRoom, BrokenBlocks}
use Rattle.refusal.proofs.Exactly.{written_verdict}
use Rattle.blocks.specs.declared.Blocks.{Blocks}
use Rattle.blocks.specs.Blocks.{most, none, of_lists}
use Rattle.blocks.proofs.Sound.{none_sound}
use Rattle.consist.specs.declared.Consist.{Consist}
use Rattle.consist.specs.Consist.{size, of_fields, with_blocks, alone, bytes_of, in_range, too_light, sound_blocks, rules, write_rules, write_consist}
use Rattle.writes.specs.Written.{consist_written, size_with, are_listed, manifest_of, write_manifest, manifest_written}

-- without its blocks, and with room, a consist is refused for nothing else
pub front_verdict : (c : Consist) (out : List ℕ) → size ≤ length out → (write_consist (alone c) out).0 ≡ lowest (rules c)
unfolding write_consist no_room in_range too_light sound_blocks none lowest
front_verdict c out room =
    written_verdict (lowest (write_rules (alone c) out)) (bytes_of (alone c)) out
    ∙ ap₂ (λ (short broken : Bool). lowest (rules c ++ (short, NoRoom) ∷ (broken, BrokenBlocks) ∷ []))
    (le-ltb (length out) size room) (ap not (none_sound c.length c.weight))

-- each length has its place
pub listed_count : (lengths weights : List ℕ) → are_listed lengths weights ≡ true → min (length lengths) most ≡ length lengths
unfolding are_listed
listed_count lengths weights h =
    let few = leb-true (length lengths) most (and-true_right (eqb (length weights) (length lengths)) (leb (length lengths) most) h) in
    omega (arith, few)

pub listed_writes : (c : Consist) (lengths weights out : List ℕ) → are_listed lengths weights ≡ true
    → write_consist (manifest_of c lengths weights) out ≡ write_manifest c lengths weights out
unfolding write_consist write_manifest in_range too_light of_lists
listed_writes c lengths weights out h =
    let full = manifest_of c lengths weights in
    ap₂ (λ (short broken : Bool). written (lowest (rules c ++ (short, NoRoom) ∷ (broken, BrokenBlocks) ∷ [])) (bytes_of full) out)
    (ap (λ (n : ℕ). no_room (size_with n) out) (listed_count lengths weights h))
    (ap (λ (listed : Bool). not (listed && sound_blocks full)) (sym h))

-- ---- what a writer tells of its steps: of the fields, with blocks that are none

module _ (fields out : List ℕ) (b : Blocks) (e : b ≡ none) (answer : ℕ × List ℕ) where
  pub consist_told : answer ≡ told (write_consist (with_blocks (of_fields fields) b) out) → answer ≡ consist_written fields out
  unfolding consist_written
  consist_told h = h ∙ ap (λ (x : Blocks). told (write_consist (with_blocks (of_fields fields) x) out)) e

  pub manifest_told : (lengths weights : List ℕ) → answer ≡ told (write_manifest (with_blocks (of_fields fields) b) lengths weights out)
      → answer ≡ manifest_written fields lengths weights out
  unfolding manifest_written
  manifest_told lengths weights h = h ∙ ap (λ (x : Blocks). told (write_manifest (with_blocks (of_fields fields) x) lengths weights out)) e

-- of a consist with the lists' blocks
pub listed_told : (c : Consist) (lengths weights out : List ℕ) (b : Blocks) (x : Consist) (answer : ℕ × List ℕ) → are_listed lengths weights ≡ true
    → b ≡ of_lists lengths weights → x ≡ with_blocks c b → answer ≡ told (write_consist x out) → answer ≡ told (write_manifest c lengths weights out)
listed_told c lengths weights out b x answer listed lists full h =
    h
    ∙ ap (λ (y : Consist). told (write_consist y out)) (full ∙ ap (with_blocks c) lists)
    ∙ ap told (listed_writes c lengths weights out listed)
