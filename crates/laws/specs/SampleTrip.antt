-- "What is written reads back the same, and what is accepted would be written with the same bits." Statements; proofs/SampleTrip.antt proves them.
use Rattle.std.specs.Prelude.{◌≡◌, ℕ, ◌≤◌, List, ◌++◌, length, take, drop}
use Rattle.bits.specs.Bytes.{Bytes}
use Rattle.refusal.specs.Verdict.{Accepted}
use Rattle.sample.specs.Sample.{size, of_fields, answer, read_sample, write_sample}

-- over bit patterns: the fields (time, rear present, head, the bits of each reading) may be any numbers, and every raw sample that the code can
-- hold is made of some, as an f32 is what its bits make
unfoldable pub WrittenReadsBack : Type 0
WrittenReadsBack =
    (fields out : List ℕ) → (write_sample (of_fields fields) out).0 ≡ Accepted
    → read_sample (take size (write_sample (of_fields fields) out).1) ≡ answer Accepted (of_fields fields)

unfoldable pub AcceptedWritesBack : Type 0
AcceptedWritesBack =
    (s out : List ℕ) → Bytes s → size ≤ length out → (read_sample s).0 ≡ Accepted → write_sample (read_sample s).1 out ≡ (Accepted, s ++ drop size out)
