-- "Profile, 6 bytes a record": the layout and the rules; the judge and the writer are those of every table. Definitions only.
use Rattle.std.specs.Prelude.{ℕ, List, [], ◌∷◌, Bool, ◌&&◌, length, get_or, leb, eqb, ℤ, pos, nat_abs}
use Rattle.bits.specs.Tables.{up_to}
use Rattle.record.specs.Location.{farthest}
use Rattle.refusal.specs.Lowest.{Rule}
use Rattle.refusal.specs.declared.Refusal.TheVariants.{BrokenProfile}
use Rattle.refusal.specs.Verdict.{Verdict, Refused}
use Rattle.table.specs.Table as table
use Rattle.table.specs.Table.{Table}
use Rattle.profile.specs.declared.Segment.{Segment}
use Rattle.profile.specs.Grade.{grade_of, grade_bits}

-- ---- the layout

-- 6 bytes a record, 2 to 257 records
abbrev pub size : ℕ
size = 6

abbrev pub fewest : ℕ
fewest = 2

abbrev pub most : ℕ
most = 257

-- start 24, grade 11 two's complement, curvature 11, spare 2
abbrev pub widths : List ℕ
widths = 24 ∷ 11 ∷ 11 ∷ 2 ∷ []

-- start, grade, curvature, spare (zero)
abbrev pub fields_of : Segment → List ℕ
fields_of g = g.start ∷ grade_bits g.grade ∷ g.curvature ∷ 0 ∷ []

abbrev pub of_fields : List ℕ → Segment
of_fields fs = record { start = get_or fs 0 0; grade = grade_of (get_or fs 1 0); curvature = get_or fs 2 0 }

-- ---- the rules

-- spare (zero), of the fields that are read
abbrev pub spare_zero : List ℕ → Bool
spare_zero fs = eqb (get_or fs 3 0) 0

-- grade (-500 to 500), curvature (0 to 2,000)
abbrev pub steepest : ℕ
steepest = 500

abbrev pub sharpest : ℕ
sharpest = 2000

-- starts are at most 4,000,000
unfoldable pub in_range : Segment → Bool
in_range g = leb (nat_abs g.grade) steepest && leb g.curvature sharpest && leb g.start farthest

-- the last only ends the profile; its grade and curvature are zero
unfoldable pub ends : Segment → Bool
ends g = eqb (nat_abs g.grade) 0 && eqb g.curvature 0

-- starts strictly rise
-- 6: the profile breaks any rule above, its byte count included
abbrev pub segments : Table Segment
segments = record {
  size = size;
  fewest = fewest;
  most = most;
  widths = widths;
  fields_of = fields_of;
  of_fields = of_fields;
  clean = spare_zero;
  in_range = in_range;
  key = λ g. g.start;
  ends = ends;
  broken = BrokenProfile;
}

abbrev pub counted : ℕ → Bool
counted = table.counted segments

-- ---- the judge, of bytes

abbrev pub count : List ℕ → ℕ
count = table.count segments

abbrev pub segment_at : List ℕ → ℕ → Segment
segment_at = table.record_at segments

-- the starts, the grades and the curvatures of the first n
abbrev pub starts_in : List ℕ → ℕ → List ℕ
starts_in p n = up_to n (λ k. (segment_at p k).start)

abbrev pub grades_in : List ℕ → ℕ → List ℤ
grades_in p n = up_to n (λ k. (segment_at p k).grade)

abbrev pub curvatures_in : List ℕ → ℕ → List ℕ
curvatures_in p n = up_to n (λ k. (segment_at p k).curvature)

abbrev pub spare_zero_at : List ℕ → ℕ → Bool
spare_zero_at = table.clean_at segments

abbrev pub lawful_in : List ℕ → Bool
lawful_in = table.lawful_in segments

abbrev pub broken_in : List ℕ → Bool
broken_in = table.broken_in segments

abbrev pub judge_rules : List ℕ → List Rule
judge_rules = table.judge_rules segments

abbrev pub broken : Verdict × ℕ
broken = table.answer segments (Refused BrokenProfile) 0

abbrev pub judge_profile : List ℕ → Verdict × ℕ
judge_profile = table.judge segments

-- ---- the writer, of a list of starts, one of grades and one of curvatures

abbrev pub segment_of : List ℕ → List ℤ → List ℕ → ℕ → Segment
segment_of starts grades curvatures k = record { start = get_or starts k 0; grade = get_or grades k (pos 0); curvature = get_or curvatures k 0 }

abbrev pub bytes_of : ℕ → (ℕ → Segment) → List ℕ
bytes_of = table.bytes_of segments

-- as many grades and curvatures as starts
abbrev pub same : List ℕ → List ℤ → List ℕ → Bool
same starts grades curvatures = eqb (length grades) (length starts) && eqb (length curvatures) (length starts)

abbrev pub lawful_of : List ℕ → List ℤ → List ℕ → Bool
lawful_of starts grades curvatures = table.lawful_of segments (same starts grades curvatures) (length starts) (segment_of starts grades curvatures)

abbrev pub write_rules : List ℕ → List ℤ → List ℕ → List ℕ → List Rule
write_rules starts grades curvatures = table.write_rules segments (same starts grades curvatures) (length starts) (segment_of starts grades curvatures)

abbrev pub write_profile : List ℕ → List ℤ → List ℕ → List ℕ → Verdict × List ℕ
write_profile starts grades curvatures = table.write segments (same starts grades curvatures) (length starts) (segment_of starts grades curvatures)
