-- What has to be shown of one record so that the laws of tables hold. Definitions only.
use Rattle.std.specs.Prelude.{◌≡◌, ℕ, [], ◌∷◌, true, ◌*◌, ◌<◌}
use lib.Dec.{T}
use Rattle.bits.specs.Fields.{total, split, Fit}
use Rattle.bits.proofs.Places.{narrow}
use Rattle.refusal.specs.declared.Refusal.TheVariants.{NoRoom}
use Rattle.refusal.proofs.Steps.{rising}
use Rattle.table.specs.Table.{Table}

pub record Facts {A : Type 0} (t : Table A) : Type 0 where
  -- the widths take all the bytes, of which there are some, and none is too wide
  pub some : 0 < t.size
  pub whole : total t.widths ≡ 8 * t.size
  pub narrow : T (narrow t.widths)
  -- the fields of a value are right, and those of one in range fit and are its own; fields that are right are those of their value
  pub right : (g : A) → t.clean (t.fields_of g) ≡ true
  pub fits : (g : A) → t.in_range g ≡ true → Fit t.widths (t.fields_of g)
  pub back : (g : A) → t.in_range g ≡ true → t.of_fields (t.fields_of g) ≡ g
  pub forth : (m : ℕ) → t.clean (split t.widths m) ≡ true → t.fields_of (t.of_fields (split t.widths m)) ≡ split t.widths m
  -- the refusal comes before that of the room
  pub first : T (rising ((true, t.broken) ∷ (true, NoRoom) ∷ []))
