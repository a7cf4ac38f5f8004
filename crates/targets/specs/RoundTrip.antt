-- "What is written reads back the same, and what is accepted would be written with the same bits." Statements; proofs/RoundTrip.antt proves them.
use Rattle.std.specs.Prelude.{◌≡◌, ℕ, ◌*◌, ◌≤◌, List, ◌++◌, length, take, drop}
use Rattle.bits.specs.Bytes.{Bytes}
use Rattle.refusal.specs.Verdict.{Accepted}
use Rattle.table.specs.RoundTrip as table
use Rattle.targets.specs.declared.Target.{Target}
use Rattle.targets.specs.Targets.{size, targets, locations_in, speeds_in, judge_targets, target_of, write_targets}

-- t is accepted, with n records, and these are they
abbrev pub Holds : List ℕ → ℕ → (ℕ → Target) → Type 0
Holds = table.Holds targets

unfoldable pub WrittenReadsBack : Type 0
WrittenReadsBack =
    (locations speeds out : List ℕ) → (write_targets locations speeds out).0 ≡ Accepted
    → Holds (take (size * length locations) (write_targets locations speeds out).1) (length locations) (target_of locations speeds)

unfoldable pub AcceptedWritesBack : Type 0
AcceptedWritesBack =
    (t out : List ℕ) (n : ℕ) → Bytes t → length t ≤ length out → judge_targets t ≡ (Accepted, n)
    → write_targets (locations_in t n) (speeds_in t n) out ≡ (Accepted, t ++ drop (length t) out)
