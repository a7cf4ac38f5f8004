-- What stands in the lists of a track's totals. Assumes nothing.
use mathlib.Core.Path.{◌≡◌, ap, ap₂, ◌∙◌}
use Prim.Native.Nat.{ℕ, ◌+◌, ◌≤◌}
use native.Mathlib.Omega.{arith}
use lib.ListN.{get_or, get_or-append}
use lib.IntN.{ℤ, pos}
use Rattle.bits.specs.Tables.{up_to}
use Rattle.bits.proofs.UpTo.{length-up_to, get_or_up_to}
use Rattle.track.specs.declared.Track.{Track}
use Rattle.track.specs.declared.Totals.{Totals}
use Rattle.track.specs.Track.{segments}
use Rattle.track.specs.Totals.{grade_total, curvature_total, placed, totals_of, AreTotals}
use Rattle.track.specs.Steps.{kept_in, total_of}

module _ (t : Track) (k : ℕ) (l : k ≤ segments t) where
  get_or_placed : {A : Type 0} (total : ℕ → A) (nothing : A) → get_or (placed t total nothing) k nothing ≡ total k
  get_or_placed total nothing =
      get_or-append (up_to (segments t + 1) total) _ nothing k (omega (arith, length-up_to total (segments t + 1)))
      ∙ get_or_up_to total (segments t + 1) k nothing (omega arith)

  pub kept_total : (totals : Totals) → AreTotals t totals → kept_in totals.grades totals.curvatures k ≡ total_of t k
  unfolding totals_of
  kept_total totals h =
      ap (λ (x : Totals). kept_in x.grades x.curvatures k) h
      ∙ ap₂ (λ (z : ℤ) (n : ℕ). record { grade = z; curvature = n }) (get_or_placed (grade_total t) (pos 0)) (get_or_placed (curvature_total t) 0)
