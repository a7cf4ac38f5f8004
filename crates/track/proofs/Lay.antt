-- A profile laid out has its records in their places. Assumes nothing.
use mathlib.Core.Path.{◌≡◌}
use Prim.Native.Nat.{ℕ, ◌≤◌, ◌<◌}
use native.Mathlib.Nat.{le_trans, le_of_eq}
use mathlib.Core.List.{List}
use lib.ListN.{get_or, get_or-eq_default}
use lib.IntN.{ℤ, pos}
use Rattle.profile.specs.declared.Segment.{Segment}
use Rattle.profile.specs.Profile.{most, segment_at}
use Rattle.bits.specs.Tables.{up_to}
use Rattle.track.specs.Track.{lay_of, at}
use Rattle.bits.proofs.UpTo.{length-up_to, get_or_up_to}

-- a record of zeros
abbrev pub nothing : Segment
nothing = record { start = 0; grade = pos 0; curvature = 0 }

module _ (p : List ℕ) where
  -- the fields of a profile's records
  abbrev pub start_at : ℕ → ℕ
  start_at k = (segment_at p k).start

  abbrev pub grade_at : ℕ → ℤ
  grade_at k = (segment_at p k).grade

  abbrev pub curvature_at : ℕ → ℕ
  curvature_at k = (segment_at p k).curvature

  pub lay_at : (k : ℕ) → k < most → at (lay_of p) k ≡ segment_at p k
  unfolding lay_of
  lay_at k h = rw (get_or_up_to start_at most k 0 h, get_or_up_to grade_at most k (pos 0) h, get_or_up_to curvature_at most k 0 h)

  pub lay_past : (k : ℕ) → most ≤ k → at (lay_of p) k ≡ nothing
  unfolding lay_of
  lay_past k h =
      rw (out start_at 0, out grade_at (pos 0), out curvature_at 0)
    where
      out : {A : Type 0} (f : ℕ → A) (z : A) → get_or (up_to most f) k z ≡ z
      out f z = get_or-eq_default (up_to most f) z (le_trans (le_of_eq (length-up_to f most)) h)
