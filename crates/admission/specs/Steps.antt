-- What the steps of an admission find on their way. Definitions only.
use Rattle.std.specs.Prelude.{List, ◌++◌, ℕ}
use Rattle.refusal.specs.Lowest.{Rule, lowest}
use Rattle.refusal.specs.Verdict.{Verdict}
use Rattle.consist.specs.declared.Consist.{Consist}
use Rattle.sample.specs.declared.RawSample.{RawSample}
use Rattle.sample.specs.declared.Sample.{Sample}
use Rattle.sample.specs.Sample.{raw_in, sample_of, layout_rules, no_sample, judgement}
use Rattle.brake.specs.declared.Brake.{Brake}
use Rattle.admission.specs.Table.{wrong_time, lines_before}

-- the table's lines between the layout and the walk, of a sample that is laid out
abbrev pub rules_raw : Consist → Brake → RawSample → List ℕ → List ℕ → List Rule
rules_raw c k raw p t = lines_before c (wrong_time k (sample_of raw)) raw p t

-- and those of the layout before them
abbrev pub rules_in : Consist → Brake → (s p t : List ℕ) → List Rule
rules_in c k s p t = layout_rules s ++ rules_raw c k (raw_in s) p t

-- a refused entry has no sample
abbrev pub no_entry : Verdict → Verdict × Sample
no_entry v = (v, no_sample)

-- what is refused of a sample that is laid out, or the sample
unfoldable pub admit_raw : Consist → Brake → RawSample → List ℕ → List ℕ → Verdict × Sample
admit_raw c k raw p t = judgement (lowest (rules_raw c k raw p t)) (sample_of raw)

-- what is refused before the walk, or the sample
unfoldable pub admit_of : Consist → Brake → (s p t : List ℕ) → Verdict × Sample
admit_of c k s p t = judgement (lowest (rules_in c k s p t)) (sample_of (raw_in s))
