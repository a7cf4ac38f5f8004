-- The round trip of the targets' records. Assumes nothing.
use mathlib.Core.Path.{◌≡◌, sym, ◌∙◌}
use Prim.Native.Nat.{ℕ, ◌<◌}
use mathlib.Core.List.{List}
use lib.ListN.{length}
use borrow.Author.Tests.{eq-eqb}
use Rattle.bits.proofs.UpTo.{length-up_to, get_or_up_to}
use Rattle.table.proofs.RoundTrip.{written_back, accepted_back}
use Rattle.targets.specs.Targets.{targets, target_at, locations_in, speeds_in, target_of, same}
use Rattle.targets.specs.RoundTrip.{WrittenReadsBack, AcceptedWritesBack}
use Rattle.targets.proofs.Sound.{facts}

pub written_reads_back : WrittenReadsBack
unfolding WrittenReadsBack
written_reads_back locations speeds out h = written_back targets facts (same locations speeds) (length locations) (target_of locations speeds) out h

-- the records of the lists of their parts
columns_are : (t : List ℕ) (n k : ℕ) → k < n → target_of (locations_in t n) (speeds_in t n) k ≡ target_at t k
columns_are t n k l = rw (get_or_up_to (λ i. (target_at t i).location) n k 0 l, get_or_up_to (λ i. (target_at t i).speed) n k 0 l)

pub accepted_writes_back : AcceptedWritesBack
unfolding AcceptedWritesBack
accepted_writes_back t out n b room h =
    let l = length-up_to (λ i. (target_at t i).location) n in
    let s = length-up_to (λ i. (target_at t i).speed) n in
    accepted_back targets facts _ n _ out t b h (columns_are t n) _ l (eq-eqb _ _ (s ∙ sym l)) room
