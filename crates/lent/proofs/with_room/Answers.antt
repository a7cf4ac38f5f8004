use mathlib.Core.Path.{◌≡◌, sym, ap, ◌∙◌}
use mathlib.Core.Bool.{Bool, true, false, ◌&&◌, ◌||◌, cond}
use Prim.Native.Nat.{ℕ}
use lib.Dec.{ltb, leb, eqb}
use Rattle.held.specs.Held.{most}
use Rattle.lent.specs.Lent.{with_room}
use Rattle.lent.proofs.with_room.Goals as goal

-- the number of NoRoom is 12
decided : (told room full : ℕ) (b : Bool) → full ≡ 12 → ltb room most && (eqb told 0 || leb full told) ≡ b → cond b 12 told ≡ with_room told room
decided told room full b e h = sym (ap (λ (x : Bool). cond x 12 told) (ap (λ (f : ℕ). ltb room most && (eqb told 0 || leb f told)) (sym e) ∙ h))

pub returns-then-room-told : goal.returns-then-room-told
returns-then-room-told c = c.number-full.ensures ∙ decided c.args.told c.args.room _ true c.number-full.ensures c.if-room-told.true

pub returns : goal.returns
returns c = decided c.args.told c.args.room _ false c.number-full.ensures c.if-room-told.false
