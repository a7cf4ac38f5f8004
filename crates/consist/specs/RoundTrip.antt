-- "What is written reads back the same, and what is accepted would be written with the same bits." Statements; proofs/RoundTrip.antt proves them.
use Rattle.std.specs.Prelude.{◌≡◌, ℕ, ◌≤◌, List, ◌++◌, length, take, drop}
use Rattle.bits.specs.Bytes.{Bytes}
use Rattle.refusal.specs.Verdict.{Accepted}
use Rattle.consist.specs.declared.Consist.{Consist}
use Rattle.consist.specs.Consist.{size_of, answer, read_consist, write_consist}

unfoldable pub WrittenReadsBack : Type 0
WrittenReadsBack =
    (c : Consist) (out : List ℕ) → (write_consist c out).0 ≡ Accepted → read_consist (take (size_of c) (write_consist c out).1) ≡ answer Accepted c

unfoldable pub AcceptedWritesBack : Type 0
AcceptedWritesBack =
    (s out : List ℕ) → Bytes s → length s ≤ length out → (read_consist s).0 ≡ Accepted → write_consist (read_consist s).1 out ≡ (Accepted, s ++ drop (length s) out)
