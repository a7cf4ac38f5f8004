-- The blocks' bytes, and their check word over the last four.
use mathlib.Core.Path.{◌≡◌, sym, ap, ◌∙◌}
use mathlib.Core.List.{List, [], ◌∷◌, ◌++◌}
use Prim.Native.Nat.{ℕ, zero, suc, ◌+◌, ◌*◌, ◌<◌}
use native.Mathlib.Omega.{arith}
use lib.ListN.{length, drop, length-drop}
use Rattle.seal.specs.Seal.{resealed}
use Rattle.seal.proofs.Seals.{resealed_over}
use Rattle.blocks.specs.Blocks as blocks
use Rattle.held.specs.Held.{behind_for, behind_of}
use Rattle.stored.proofs.put_behind.Goals as goal

none_put : (n : ℕ) (s out : List ℕ) → n ≡ 0 → behind_for n ≡ length out → out ≡ behind_of n s
none_put n s [] e room = sym (ap (λ (k : ℕ). behind_of k s) e)
none_put n s (x ∷ out) e room = absurd (omega (arith, ap behind_for e))

some_room : (n m : ℕ) → 0 < n → behind_for n ≡ m → m ≡ 4 * n + 4
some_room zero m h e = absurd (omega arith)
some_room (suc n) m h e = omega arith

some_put : (n : ℕ) (s out : List ℕ) → 0 < n → behind_for n ≡ length out → resealed (s ++ drop (4 * n) out) ≡ behind_of n s
some_put zero s out h room = absurd (omega arith)
some_put (suc n) s out h room = resealed_over s (drop (4 * suc n) out) (simp length-drop (omega arith))

pub returns-then-b-eq0 : goal.returns-then-b-eq0
returns-then-b-eq0 c = none_put c.args.b.count _ _ (omega arith) c.requires.room

pub put-requires : goal.put-requires
put-requires c = let some : 0 < c.args.b.count = omega arith in (c.requires.few, omega (arith, some_room _ _ some c.requires.room))

pub returns : goal.returns
returns c =
    let b = c.args.b in
    let some : 0 < b.count = omega arith in
    c.put_check_word.ensures ∙ ap resealed c.put.ensures ∙ some_put b.count (blocks.bytes_of b) c.args.out.now some c.requires.room
