-- "Records are read and written by one layout: what is written reads back the same, and what is accepted would be written with the same bits."
-- One statement over any record, the five records and the session's own; and what C is told. Statements; proofs/RoundTrips.antt proves them.
use Rattle.std.specs.Prelude.{◌≡◌, List, ◌++◌, ℕ, ◌*◌, ◌≤◌, length, take, drop, ℤ}
use Rattle.bits.specs.Bytes.{Bytes}
use Rattle.refusal.specs.Verdict.{Verdict, Accepted}
use Rattle.refusal.specs.Number.{told}
use Rattle.consist.specs.declared.Consist.{Consist}
use Rattle.consist.specs.Consist as consist
use Rattle.consist.specs.Consist.{read_consist}
use Rattle.profile.specs.Profile.{size as profile_size, starts_in, grades_in, curvatures_in, judge_profile, write_profile}
use Rattle.targets.specs.Targets.{size as targets_size, judge_targets, locations_in, speeds_in, write_targets}
use Rattle.sample.specs.Sample.{size as sample_size, of_fields, read_sample, write_sample}
use Rattle.decision.specs.declared.Decision.{Decision}
use Rattle.decision.specs.Decision.{size as decision_size, read_decision, write_decision}
use Rattle.held.specs.Held as held
use Rattle.writes.specs.Written.{size_with, manifest_of, write_manifest, sample_written}
use Rattle.tells.specs.Judged.{decision_numbers, numbers_of, decision_as_read}

-- ---- the law

-- of any record: how many bytes c takes, that bytes are accepted and read as c, the writer's verdict with the lent bytes afterwards
module _ {C : Type 0} (size : C → ℕ) (Reads : List ℕ → C → Type 0) where
  pub record ReadsBack {A : Type 0} (accepted : A) (writes : C → List ℕ → A × List ℕ) : Type 0 where
    -- "what is written reads back the same"
    pub written_reads_back : (c : C) (out : List ℕ) → (writes c out).0 ≡ accepted → Reads (take (size c) (writes c out).1) c
    -- writers "never touch bytes past the record"
    pub past : (c : C) (out : List ℕ) → drop (size c) (writes c out).1 ≡ drop (size c) out

  pub record RoundTrip (writes : C → List ℕ → Verdict × List ℕ) : Type 0 where
    pub reads_back : ReadsBack Accepted writes
    -- "what is accepted would be written with the same bits"
    pub accepted_writes_back : (s out : List ℕ) (c : C) → Bytes s → length s ≤ length out → Reads s c → writes c out ≡ (Accepted, s ++ drop (length s) out)

-- a profile as its writer is given it, starts, grades and curvatures; and what bytes read as, with as many records as the judge counts
abbrev pub Segments : Type 0
Segments = List ℕ × List ℤ × List ℕ

abbrev pub read_segments : List ℕ → Verdict × Segments
read_segments p = let (v, n) = judge_profile p in (v, (starts_in p n, grades_in p n, curvatures_in p n))

-- the same of targets, locations and speeds
abbrev pub read_targets : List ℕ → Verdict × (List ℕ × List ℕ)
read_targets t = let (v, n) = judge_targets t in (v, (locations_in t n, speeds_in t n))

-- a consist and the blocks that two lists are, of lengths and of weights
abbrev pub Manifest : Type 0
Manifest = Consist × List ℕ × List ℕ

-- bytes are accepted and read as the raw sample of these fields: each reading is what its 32 bits stand for, as every f32 of the code is
abbrev pub ReadsSample : List ℕ → List ℕ → Type 0
ReadsSample s fields = read_sample s ≡ (Accepted, of_fields fields)

-- ---- the definitions that the calls are (`is` of specs/Calls.antt)

pub record RoundTrips : Type 1 where
  pub consist : RoundTrip consist.size_of (λ s c. consist.read_consist s ≡ (Accepted, c)) consist.write_consist
  -- a writer of the same record, from lists
  pub manifest : ReadsBack {C = Manifest} (λ (c, lengths, weights). size_with (length lengths))
      (λ s (c, lengths, weights). read_consist s ≡ (Accepted, manifest_of c lengths weights)) Accepted
      (λ (c, lengths, weights). write_manifest c lengths weights)
  pub profile :
      RoundTrip (λ c. profile_size * length c.0) (λ p c. read_segments p ≡ (Accepted, c)) (λ (starts, grades, curvatures). write_profile starts grades curvatures)
  pub targets :
      RoundTrip (λ c. targets_size * length c.0) (λ t c. read_targets t ≡ (Accepted, c)) (λ (locations, speeds). write_targets locations speeds)
  pub sample : RoundTrip (λ fields. sample_size) ReadsSample (λ fields. write_sample (of_fields fields))
  pub decision : RoundTrip (λ d. decision_size) (λ s d. read_decision s ≡ (Accepted, d)) write_decision
  pub held : RoundTrip held.size_of (λ s x. held.read_session s ≡ (Accepted, x)) held.write_session
  -- for C the same holds of a writer above, told: where it tells 0
  pub told : {C : Type 0} (size : C → ℕ) (Reads : List ℕ → C → Type 0) (writes : C → List ℕ → Verdict × List ℕ)
      → ReadsBack size Reads Accepted writes → ReadsBack size Reads 0 (λ c out. told (writes c out))
  -- the sample's writer refuses more, and the decision's numbers are those of the decision that the bytes read as
  pub buongilach_write_sample : ReadsBack (λ fields. sample_size) ReadsSample 0 sample_written
  pub buongilach_read_decision :
      ReadsBack (λ s. decision_numbers) (λ five s. (d : Decision) × (read_decision s ≡ (Accepted, d)) × (five ≡ numbers_of d)) 0 decision_as_read
