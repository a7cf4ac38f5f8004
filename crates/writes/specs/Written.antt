-- "reading and writing of records": the writers, of numbers and lent slices alone. Definitions only.
use Rattle.std.specs.Prelude.{Bool, not, ◌&&◌, List, [], ◌∷◌, ◌++◌, ℕ, ◌+◌, ◌*◌, leb, eqb, ℤ, length}
use Rattle.bits.specs.Fields.{bit}
use Rattle.refusal.specs.Lowest.{Rule, lowest}
use Rattle.refusal.specs.Number.{told}
use Rattle.refusal.specs.Written.{no_room, written}
use Rattle.refusal.specs.declared.Refusal.TheVariants.{WrongMark, NoRoom, BrokenBlocks}
use Rattle.refusal.specs.Verdict.{Verdict}
use Rattle.blocks.specs.Blocks as blocks
use Rattle.consist.specs.declared.Consist.{Consist}
use Rattle.consist.specs.Consist as consist
use Rattle.profile.specs.Profile as profile
use Rattle.targets.specs.Targets as targets
use Rattle.sample.specs.Sample as sample

-- 4 and 5, then 12: "Writers refuse what the reader would, with its number"; of the record's fields in its order, and no blocks
unfoldable pub consist_written : List ℕ → List ℕ → ℕ × List ℕ
consist_written fields out = told (consist.write_consist (consist.of_fields fields) out)

-- ---- the consist with blocks, "head end first": a list of lengths, and one of weights

-- the bytes of a consist with n blocks
abbrev pub size_with : ℕ → ℕ
size_with n = consist.size + blocks.size * n

-- as many weights as lengths, and no more than there may be
unfoldable pub are_listed : (lengths weights : List ℕ) → Bool
are_listed lengths weights = eqb (length weights) (length lengths) && leb (length lengths) blocks.most

abbrev pub manifest_of : Consist → (lengths weights : List ℕ) → Consist
manifest_of c lengths weights = consist.with_blocks c (blocks.of_lists lengths weights)

-- 13: "blocks that break these rules"
abbrev pub broken_lists : Consist → (lengths weights : List ℕ) → Bool
broken_lists c lengths weights = not (are_listed lengths weights && consist.sound_blocks (manifest_of c lengths weights))

-- 4 and 5, then 12, for as many blocks as there are lengths, and 13
abbrev pub manifest_rules : Consist → (lengths weights out : List ℕ) → List Rule
manifest_rules c lengths weights out =
    consist.rules c ++ (no_room (size_with (length lengths)) out, NoRoom) ∷ (broken_lists c lengths weights, BrokenBlocks) ∷ []

unfoldable pub write_manifest : Consist → (lengths weights out : List ℕ) → Verdict × List ℕ
write_manifest c lengths weights out = written (lowest (manifest_rules c lengths weights out)) (consist.bytes_of (manifest_of c lengths weights)) out

-- of the record's fields in its order
unfoldable pub manifest_written : (fields lengths weights out : List ℕ) → ℕ × List ℕ
manifest_written fields lengths weights out = told (write_manifest (consist.of_fields fields) lengths weights out)

-- ---- profile and targets

-- 6, then 12; of starts, grades and curvatures
unfoldable pub profile_written : List ℕ → List ℤ → List ℕ → List ℕ → ℕ × List ℕ
profile_written starts grades curvatures out = told (profile.write_profile starts grades curvatures out)

-- 7, then 12; of locations and speeds
unfoldable pub targets_written : List ℕ → List ℕ → List ℕ → ℕ × List ℕ
targets_written locations speeds out = told (targets.write_targets locations speeds out)

-- ---- the sample

-- the record's fields in its order; any number but 0 says that the rear is present; speed, front and rear are
-- "the 32 bits of an IEEE 754 binary32"
abbrev pub sample_fields : (time present head speed front rear : ℕ) → List ℕ
sample_fields time present head speed front rear =
    sample.mark ∷ time ∷ bit (not (eqb present 0)) ∷ 0 ∷ head ∷ speed ∷ front ∷ rear ∷ []

-- 3, "rear lost with rear bits not zero", which only numbers can say; then 4, 8 and 12
abbrev pub sample_write_rules : List ℕ → List ℕ → List Rule
sample_write_rules fields out = (sample.lost_not_zero fields, WrongMark) ∷ sample.write_rules (sample.of_fields fields) out

unfoldable pub sample_written : List ℕ → List ℕ → ℕ × List ℕ
sample_written fields out = told (written (lowest (sample_write_rules fields out)) (sample.bytes_of (sample.of_fields fields)) out)
