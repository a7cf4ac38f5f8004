-- "Targets, 5 bytes a record": the layout and the rules; the judge and the writer are those of every table. Definitions only.
use Rattle.std.specs.Prelude.{ℕ, List, [], ◌∷◌, Bool, true, ◌&&◌, length, get_or, leb, eqb}
use Rattle.bits.specs.Tables.{up_to}
use Rattle.record.specs.Location.{farthest}
use Rattle.refusal.specs.Lowest.{Rule}
use Rattle.refusal.specs.declared.Refusal.TheVariants.{BrokenTargets}
use Rattle.refusal.specs.Verdict.{Verdict, Refused}
use Rattle.table.specs.Table as table
use Rattle.table.specs.Table.{Table}
use Rattle.targets.specs.declared.Target.{Target}

-- ---- the layout

-- 5 bytes a record, 0 to 8 records
abbrev pub size : ℕ
size = 5

abbrev pub fewest : ℕ
fewest = 0

abbrev pub most : ℕ
most = 8

-- location 24, speed 16
abbrev pub widths : List ℕ
widths = 24 ∷ 16 ∷ []

abbrev pub fields_of : Target → List ℕ
fields_of g = g.location ∷ g.speed ∷ []

abbrev pub of_fields : List ℕ → Target
of_fields fs = record { location = get_or fs 0 0; speed = get_or fs 1 0 }

-- ---- the rules

-- speed (0 to 10,000)
abbrev pub fastest : ℕ
fastest = 10000

-- location (at most 4,000,000)
unfoldable pub in_range : Target → Bool
in_range g = leb g.location farthest && leb g.speed fastest

-- no bit is spare; locations strictly rise; the last one is as the others
-- 7: the targets break any rule above, their byte count included
abbrev pub targets : Table Target
targets = record {
  size = size;
  fewest = fewest;
  most = most;
  widths = widths;
  fields_of = fields_of;
  of_fields = of_fields;
  clean = λ fs. true;
  in_range = in_range;
  key = λ g. g.location;
  ends = λ g. true;
  broken = BrokenTargets;
}

abbrev pub counted : ℕ → Bool
counted = table.counted targets

-- ---- the judge, of bytes

abbrev pub count : List ℕ → ℕ
count = table.count targets

abbrev pub target_at : List ℕ → ℕ → Target
target_at = table.record_at targets

-- the locations and the speeds of the first n
abbrev pub locations_in : List ℕ → ℕ → List ℕ
locations_in t n = up_to n (λ k. (target_at t k).location)

abbrev pub speeds_in : List ℕ → ℕ → List ℕ
speeds_in t n = up_to n (λ k. (target_at t k).speed)

abbrev pub lawful_in : List ℕ → Bool
lawful_in = table.lawful_in targets

abbrev pub broken_in : List ℕ → Bool
broken_in = table.broken_in targets

abbrev pub judge_rules : List ℕ → List Rule
judge_rules = table.judge_rules targets

abbrev pub broken : Verdict × ℕ
broken = table.answer targets (Refused BrokenTargets) 0

abbrev pub judge_targets : List ℕ → Verdict × ℕ
judge_targets = table.judge targets

-- ---- the writer, of a list of locations and one of speeds

abbrev pub target_of : List ℕ → List ℕ → ℕ → Target
target_of locations speeds k = record { location = get_or locations k 0; speed = get_or speeds k 0 }

abbrev pub bytes_of : ℕ → (ℕ → Target) → List ℕ
bytes_of = table.bytes_of targets

-- as many speeds as locations
abbrev pub same : List ℕ → List ℕ → Bool
same locations speeds = eqb (length speeds) (length locations)

abbrev pub lawful_of : List ℕ → List ℕ → Bool
lawful_of locations speeds = table.lawful_of targets (same locations speeds) (length locations) (target_of locations speeds)

abbrev pub write_rules : List ℕ → List ℕ → List ℕ → List Rule
write_rules locations speeds = table.write_rules targets (same locations speeds) (length locations) (target_of locations speeds)

abbrev pub write_targets : List ℕ → List ℕ → List ℕ → Verdict × List ℕ
write_targets locations speeds = table.write targets (same locations speeds) (length locations) (target_of locations speeds)
