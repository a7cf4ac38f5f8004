-- The round trip of the profile's records. Assumes nothing.
use mathlib.Core.Path.{◌≡◌, sym, ap₂, ◌∙◌}
use Prim.Native.Nat.{ℕ, ◌<◌}
use mathlib.Core.Bool.{◌&&◌}
use mathlib.Core.List.{List}
use lib.IntN.{ℤ, pos}
use lib.ListN.{length}
use borrow.Author.Tests.{eq-eqb}
use Rattle.bits.proofs.Ranges.{and-true_left}
use Rattle.bits.proofs.UpTo.{length-up_to, get_or_up_to}
use Rattle.refusal.specs.Verdict.{Accepted}
use Rattle.table.proofs.RoundTrip.{written_lawful, written_back, accepted_back}
use Rattle.profile.specs.Profile.{segments, segment_at, starts_in, grades_in, curvatures_in, segment_of, same, write_profile}
use Rattle.laws.specs.ProfileTrip.{WrittenReadsBack, AcceptedWritesBack}
use Rattle.profile.proofs.Sound.{facts, lengths}

-- the writer accepts lists of one length
pub written_lengths : (starts : List ℕ) (grades : List ℤ) (curvatures out : List ℕ) → (write_profile starts grades curvatures out).0 ≡ Accepted
    → (length grades ≡ length starts) × (length curvatures ≡ length starts)
written_lengths starts grades curvatures out h =
    lengths starts grades curvatures (and-true_left (same starts grades curvatures) _ (written_lawful segments _ _ _ out h).0)

pub written_reads_back : WrittenReadsBack
unfolding WrittenReadsBack
written_reads_back starts grades curvatures out h =
    written_back segments facts (same starts grades curvatures) (length starts) (segment_of starts grades curvatures) out h

-- the records of the lists of their parts
columns_are : (p : List ℕ) (n k : ℕ) → k < n → segment_of (starts_in p n) (grades_in p n) (curvatures_in p n) k ≡ segment_at p k
columns_are p n k l =
    rw (get_or_up_to (λ i. (segment_at p i).start) n k 0 l, get_or_up_to (λ i. (segment_at p i).grade) n k (pos 0) l, get_or_up_to (λ i. (segment_at p i).curvature) n k 0 l)

pub accepted_writes_back : AcceptedWritesBack
unfolding AcceptedWritesBack
accepted_writes_back p out n b room h =
    let s = length-up_to (λ i. (segment_at p i).start) n in
    let g = length-up_to (λ i. (segment_at p i).grade) n in
    let c = length-up_to (λ i. (segment_at p i).curvature) n in
    accepted_back segments facts _ n _ out p b h (columns_are p n) _ s (ap₂ ◌&&◌ (eq-eqb _ _ (g ∙ sym s)) (eq-eqb _ _ (c ∙ sym s))) room
