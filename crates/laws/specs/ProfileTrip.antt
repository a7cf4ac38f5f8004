-- "What is written reads back the same, and what is accepted would be written with the same bits." Of the profile; statements; proofs/ProfileTrip.antt proves them.
use Rattle.std.specs.Prelude.{◌≡◌, ℕ, ◌*◌, ◌≤◌, List, ◌++◌, length, take, drop, ℤ}
use Rattle.bits.specs.Bytes.{Bytes}
use Rattle.refusal.specs.Verdict.{Accepted}
use Rattle.table.specs.RoundTrip as table
use Rattle.profile.specs.declared.Segment.{Segment}
use Rattle.profile.specs.Profile.{size, segments, starts_in, grades_in, curvatures_in, judge_profile, segment_of, write_profile}

-- p is accepted, with n records, and these are they
abbrev pub Holds : List ℕ → ℕ → (ℕ → Segment) → Type 0
Holds = table.Holds segments

unfoldable pub WrittenReadsBack : Type 0
WrittenReadsBack =
    (starts : List ℕ) (grades : List ℤ) (curvatures out : List ℕ) → (write_profile starts grades curvatures out).0 ≡ Accepted
    → Holds (take (size * length starts) (write_profile starts grades curvatures out).1) (length starts) (segment_of starts grades curvatures)

unfoldable pub AcceptedWritesBack : Type 0
AcceptedWritesBack =
    (p out : List ℕ) (n : ℕ) → Bytes p → length p ≤ length out → judge_profile p ≡ (Accepted, n)
    → write_profile (starts_in p n) (grades_in p n) (curvatures_in p n) out ≡ (Accepted, p ++ drop (length p) out)
