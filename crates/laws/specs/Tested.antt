-- Document 01's walk with its test for 11, to the letter. Document 02 (R-10): "Prove that, then take 11 and its test out. .. all other answers stand."
-- `TestIdle` says that within 01's limits this walk is never refused and answers what 01's walk without it does; proofs/Tested.antt proves it.
use Rattle.std.specs.Prelude.{◌≡◌, Bool, cond, ℕ, zero, suc, ◌*◌, ◌≤◌, ℤ, pos}
use Rattle.std.specs.Int.Signed.{le_z, lt_z}
use Rattle.consist.specs.declared.Consist.{Consist}
use Rattle.step.specs.Step.{steps_most, Ground}
use Rattle.step.specs.Gain.{Limited, NoSteeper, speed_most}
use Rattle.walk.specs.Walk.{Arrival, at, never}
use Rattle.laws.specs.Literal.{RunZ, step_z, start_z}
use Rattle.laws.specs.Crossing.{crossing_for}

-- 11: "the walk's squared speed exceeds 1,000,000,000"
abbrev pub bound : ℕ
bound = 1000000000

abbrev pub exceeds : ℤ → Bool
exceeds q = lt_z (pos bound) q

-- refused by 11, or an arrival
pub data Tested : Type 0 where
  refused : Tested
  answered : Arrival → Tested

-- tested before each step and after the last
unfoldable pub walk_tested : Consist → (ℕ → ℕ) → Ground → ℕ → ℕ → RunZ → Tested
walk_tested c force ground limit zero r = cond (exceeds r.q) refused (cond (le_z r.q (pos limit)) (answered (at r.head)) (answered never))
walk_tested c force ground limit (suc n) r =
    let rest : Tested = walk_tested c force ground limit n (step_z c force ground r) in
    cond (exceeds r.q) refused (cond (le_z r.q (pos limit)) (answered (at r.head)) rest)

-- "The location for a target speed", for the stop 0, by the tested walk
abbrev pub tested_for : Consist → (ℕ → ℕ) → Ground → (head v u : ℕ) → Tested
tested_for c force ground head v u = walk_tested c force ground (u * u) steps_most (start_z head v)

-- over any brake force that is not negative, and any ground that falls no more than a profile may
unfoldable pub TestIdle : Type 0
TestIdle =
    (c : Consist) (force : ℕ → ℕ) (ground : Ground) (head v u : ℕ) → Limited c → NoSteeper ground → v ≤ speed_most →
    tested_for c force ground head v u ≡ answered (crossing_for c force ground head v u)
