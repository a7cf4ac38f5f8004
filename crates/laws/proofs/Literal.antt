-- The walk whose squared speed may be below zero answers what the walk that counts it as zero does. Assumes nothing.
use mathlib.Core.Path.{◌≡◌, refl, ap, ap₂}
use mathlib.Core.Bool.{Bool, ◌&&◌, ◌||◌}
use Prim.Native.Nat.{ℕ, zero, suc, ◌*◌}
use lib.Dec.{leb}
use lib.IntN.{ℤ, pos, negsuc}
use Rattle.whole.specs.Floor.{cut}
use Rattle.consist.specs.declared.Consist.{Consist}
use Rattle.step.specs.Step.{steps_most, Ground, step_of}
use Rattle.walk.specs.Walk.{Arrival, arrival_by, stays, walk_to, arrival_for}
use Rattle.laws.specs.Literal.{step_z, stays_z, walk_z, Literally}

module _ (c : Consist) (force : ℕ → ℕ) (ground : Ground) (limit : ℕ) where
  -- a squared speed below zero has ended as zero has
  same_stay : (n head clock : ℕ) (q : ℤ) →
      stays_z c force ground limit n (record { head = head; clock = clock; q = q })
      ≡ stays c force ground limit n (record { head = head; clock = clock; q = cut q })
  unfolding stays_z stays step_z step_of
  same_stay zero head clock (pos a) = refl
  same_stay zero head clock (negsuc a) = refl
  same_stay (suc n) head clock (pos a) = ap (λ (rest : Bool). leb a 0 || leb a limit && rest) (same_stay n _ _ _)
  same_stay (suc n) head clock (negsuc a) = refl

  same : (n head clock : ℕ) (q : ℤ) →
      walk_z c force ground limit n (record { head = head; clock = clock; q = q })
      ≡ walk_to c force ground limit n (record { head = head; clock = clock; q = cut q })
  unfolding walk_z walk_to stays_z stays step_z step_of
  same zero head clock (pos a) = refl
  same zero head clock (negsuc a) = refl
  same (suc n) head clock (pos a) = ap₂ (λ (b : Bool) (rest : Arrival). arrival_by b head rest) (same_stay (suc n) head clock (pos a)) (same n _ _ _)
  same (suc n) head clock (negsuc a) = refl

pub literally : Literally
unfolding Literally arrival_for
literally c force ground head v u = same c force ground (u * u) steps_most head 0 (pos (v * v))
