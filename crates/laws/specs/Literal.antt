-- The walk as the paper words it, with a squared speed that may be below zero. `Literally` says that the walk of `walk` answers the same;
-- its proof is `literally` of proofs/Literal.antt.
use Rattle.std.specs.Prelude.{◌≡◌, Bool, ◌&&◌, ◌||◌, ℕ, zero, suc, ◌+◌, ◌*◌, ℤ, pos, ◌-ℤ◌}
use Rattle.std.specs.Int.Signed.{le_z}
use Rattle.whole.specs.Floor.{cut}
use Rattle.whole.specs.Root.{root_of}
use Rattle.consist.specs.declared.Consist.{Consist}
use Rattle.step.specs.Step.{steps_most, Ground, loss, step_time}
use Rattle.walk.specs.Walk.{Arrival, never, arrival_by, arrival_for}

pub record RunZ : Type 0 where
  pub head : ℕ
  pub clock : ℕ
  pub q : ℤ

-- made while q is above 0, where `cut` is q itself
unfoldable pub step_z : Consist → (ℕ → ℕ) → Ground → RunZ → RunZ
step_z c force ground r =
    let q = cut r.q in
    record {
      head = r.head + 16;
      clock = r.clock + step_time (root_of q);
      q = r.q -ℤ loss c (force r.clock) (root_of q) q (ground.grade r.head) (ground.curvature r.head);
    }

-- "to the end of the walk", where "q first is 0 or less", it "stays at or below" the limit
unfoldable pub stays_z : Consist → (ℕ → ℕ) → Ground → ℕ → ℕ → RunZ → Bool
stays_z c force ground limit zero r = le_z r.q (pos 0)
stays_z c force ground limit (suc n) r =
    let rest : Bool = stays_z c force ground limit n (step_z c force ground r) in
    le_z r.q (pos 0) || le_z r.q (pos limit) && rest

-- "the first head from which" it does: with the limit 0, "the head when q first is 0 or less"
unfoldable pub walk_z : Consist → (ℕ → ℕ) → Ground → ℕ → ℕ → RunZ → Arrival
walk_z c force ground limit zero r = arrival_by (stays_z c force ground limit zero r) r.head never
walk_z c force ground limit (suc n) r =
    let rest : Arrival = walk_z c force ground limit n (step_z c force ground r) in
    arrival_by (stays_z c force ground limit (suc n) r) r.head rest

abbrev pub start_z : ℕ → ℕ → RunZ
start_z head v = record { head = head; clock = 0; q = pos (v * v) }

unfoldable pub Literally : Type 0
Literally =
    (c : Consist) (force : ℕ → ℕ) (ground : Ground) (head v u : ℕ) →
    walk_z c force ground (u * u) steps_most (start_z head v) ≡ arrival_for c force ground head v u
