-- "What is written reads back the same, and what is accepted would be written with the same bits." Statements; proofs/RoundTrip.antt proves them.
use Rattle.std.specs.Prelude.{◌≡◌, ℕ, ◌≤◌, List, ◌++◌, length, take, drop}
use Rattle.bits.specs.Bytes.{Bytes}
use Rattle.refusal.specs.Verdict.{Accepted}
use Rattle.decision.specs.declared.Decision.{Decision}
use Rattle.decision.specs.Decision.{size, answer, read_decision, write_decision, write_both}

unfoldable pub WrittenReadsBack : Type 0
WrittenReadsBack =
    (d : Decision) (out : List ℕ) → (write_decision d out).0 ≡ Accepted → read_decision (take size (write_decision d out).1) ≡ answer Accepted d

unfoldable pub AcceptedWritesBack : Type 0
AcceptedWritesBack =
    (s out : List ℕ) → Bytes s → size ≤ length out → (read_decision s).0 ≡ Accepted → write_decision (read_decision s).1 out ≡ (Accepted, s ++ drop size out)

-- both records of a sample call, each at its place
unfoldable pub BothReadBack : Type 0
BothReadBack =
    (d e : Decision) (out : List ℕ) → (write_both d e out).0 ≡ Accepted → let after = (write_both d e out).1 in
    (read_decision (take size after) ≡ answer Accepted d) × (read_decision (take size (drop size after)) ≡ answer Accepted e)
