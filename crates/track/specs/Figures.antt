-- Figures of the track, as one statement. Its proof is `figures` of proofs/Figures.antt.
use Rattle.std.specs.Prelude.{◌≡◌, ℕ, List, [], ◌∷◌, pos, negsuc}
use Rattle.track.specs.declared.Track.{Track}
use Rattle.track.specs.Track.{lay_of, grade_under, curvature_under}
use Rattle.track.specs.Totals.{grade_total, curvature_total, grade_to}

-- 51 ft at 50 and 49 ft at -53; -53 is `negsuc 52`
abbrev pub dip : Track
dip = record { count = 3; starts = 0 ∷ 51 ∷ 100 ∷ []; grades = pos 50 ∷ negsuc 52 ∷ pos 0 ∷ []; curvatures = 100 ∷ 201 ∷ 0 ∷ [] }

-- 100 ft at 1 and 101 ft at -1
abbrev pub crest : Track
crest = record { count = 3; starts = 0 ∷ 100 ∷ 201 ∷ []; grades = pos 1 ∷ negsuc 0 ∷ pos 0 ∷ []; curvatures = 0 ∷ 0 ∷ 0 ∷ [] }

-- 2 ft at 1 and 1 ft at -3
abbrev pub ridge : Track
ridge = record { count = 3; starts = 0 ∷ 2 ∷ 3 ∷ []; grades = pos 1 ∷ negsuc 2 ∷ pos 0 ∷ []; curvatures = 0 ∷ 0 ∷ 0 ∷ [] }

-- `dip` in bytes
abbrev pub dip_bytes : List ℕ
dip_bytes = 0 ∷ 0 ∷ 0 ∷ 6 ∷ 65 ∷ 144 ∷ 0 ∷ 0 ∷ 51 ∷ 249 ∷ 99 ∷ 36 ∷ 0 ∷ 0 ∷ 100 ∷ 0 ∷ 0 ∷ 0 ∷ []

-- three segments, the first from 10 ft on; -100 is `negsuc 99`
abbrev pub hill : Track
hill = record {
  count = 4;
  starts = 10 ∷ 20 ∷ 40 ∷ 70 ∷ [];
  grades = pos 300 ∷ pos 100 ∷ negsuc 99 ∷ pos 0 ∷ [];
  curvatures = 0 ∷ 50 ∷ 7 ∷ 0 ∷ [];
}

pub record Figures : Type 0 where
  -- the whole of it: its curvature, and both from its bytes
  pub dip_curvature : curvature_under dip 100 100 ≡ 149
  pub laid_grade : grade_under (lay_of dip_bytes) 100 100 ≡ negsuc 46
  pub laid_curvature : curvature_under (lay_of dip_bytes) 100 100 ≡ 149
  -- on one segment
  pub one_grade : grade_under dip 40 30 ≡ pos 5000
  pub one_curvature : curvature_under dip 40 30 ≡ 100
  -- across two: 10 ft of each
  pub two_grade : grade_under dip 61 20 ≡ negsuc 149
  pub two_curvature : curvature_under dip 61 20 ≡ 150
  -- across three: 10, 20 and 30 ft
  pub three_grade : grade_under hill 70 60 ≡ pos 3333
  pub three_curvature : curvature_under hill 70 60 ≡ 20
  -- ten of its twenty feet lie before the first start
  pub before_grade : grade_under hill 20 20 ≡ pos 15000
  -- longer than where its head is
  pub long_grade : grade_under hill 20 40 ≡ pos 7500
  -- beyond the last start
  pub beyond_grade : grade_under hill 170 100 ≡ pos 0
  -- no length
  pub no_length_grade : grade_under hill 70 0 ≡ pos 0
  pub no_length_curvature : curvature_under hill 70 0 ≡ 0
  -- totals of no segment, of one, two and three
  pub grade_total_0 : grade_total hill 0 ≡ pos 0
  pub grade_total_1 : grade_total hill 1 ≡ pos 3000
  pub grade_total_2 : grade_total hill 2 ≡ pos 5000
  pub grade_total_3 : grade_total hill 3 ≡ pos 2000
  pub curvature_total_0 : curvature_total hill 0 ≡ 0
  pub curvature_total_1 : curvature_total hill 1 ≡ 0
  pub curvature_total_2 : curvature_total hill 2 ≡ 1000
  pub curvature_total_3 : curvature_total hill 3 ≡ 1210
  -- at a location: before the first start, at it, inside a segment or at its end, at the last start, past it
  pub grade_to_5 : grade_to hill 5 ≡ pos 0
  pub grade_to_10 : grade_to hill 10 ≡ pos 0
  pub grade_to_15 : grade_to hill 15 ≡ pos 1500
  pub grade_to_20 : grade_to hill 20 ≡ pos 3000
  pub grade_to_30 : grade_to hill 30 ≡ pos 4000
  pub grade_to_40 : grade_to hill 40 ≡ pos 5000
  pub grade_to_55 : grade_to hill 55 ≡ pos 3500
  pub grade_to_70 : grade_to hill 70 ≡ pos 2000
  pub grade_to_170 : grade_to hill 170 ≡ pos 2000
