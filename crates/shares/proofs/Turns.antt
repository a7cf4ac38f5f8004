-- The turns of the loop over a train's blocks. Assumes nothing.
use mathlib.Core.Path.{◌≡◌, refl, ap, ◌∙◌}
use Prim.Native.Nat.{ℕ, suc, ◌+◌, ◌-◌, ◌^◌, ◌≤◌, ◌<◌}
use native.Mathlib.Numerals.{add-one}
use native.Mathlib.Omega.{arith}
use lib.IntN.{pos}
use Rattle.blocks.specs.declared.Blocks.{Blocks}
use Rattle.blocks.specs.Blocks.{length_of, weight_of, sum_to}
use Rattle.track.specs.declared.Track.{Track}
use Rattle.track.specs.declared.Sums.{Sums}
use Rattle.track.specs.declared.Reached.{Reached}
use Rattle.track.specs.Gentle.{Gentle}
use Rattle.track.specs.Steps.{reached_of}
use Rattle.shares.specs.declared.Shares.{Shares}
use Rattle.shares.specs.Shares.{front_of, grade_shares}
use Rattle.shares.specs.Steps.{Loaded, plus_of, shares_to, Between}
use Rattle.shares.proofs.Sums.{front_next, front_sums, shares_on, between}

-- where a turn stands
pub record Turn (t : Track) (head : ℕ) (b : Blocks) (location : ℕ) (front : Sums) (shares : Shares) (k : ℕ) : Type 0 where
  pub turns : k ≤ b.count
  pub at : location ≡ front_of head b k
  pub totals : front ≡ front_sums t head b k
  pub shared : shares ≡ shares_to t head b k

pub begun : (t : Track) (head : ℕ) (b : Blocks) (r : Reached) → r ≡ reached_of t head → Turn t head b head r.sums (record { grade = pos 0; curvature = 0 }) 0
unfolding grade_shares sum_to
begun t head b r e =
    let h : head ≡ head - 0 = omega arith in
    record { turns = omega arith; at = h; totals = ap (λ (r : Reached). r.sums) e ∙ ap (λ (x : ℕ). (reached_of t x).sums) h; shared = refl }

module _ {t : Track} {head : ℕ} {b : Blocks} {location : ℕ} {front : Sums} {shares : Shares} {k : ℕ} (turn : Turn t head b location front shares k) where
  -- the block's rear, and the totals there
  rear_is : (rear : ℕ) → rear ≡ location - length_of b k → rear ≡ front_of head b (suc k)
  rear_is rear e = e ∙ ap (λ (x : ℕ). x - length_of b k) turn.at ∙ front_next head b k

  rear_totals : (rear : ℕ) (r : Reached) → rear ≡ location - length_of b k → r ≡ reached_of t rear → r.sums ≡ front_sums t head b (suc k)
  rear_totals rear r e f = ap (λ (r : Reached). r.sums) (f ∙ ap (reached_of t) (rear_is rear e))

  pub asked : Gentle t → (weight : ℕ) → Loaded b weight → weight < 2 ^ 16 → k < b.count → head < 2 ^ 32 → (rear : ℕ) (r : Reached) → rear ≡ location - length_of b k
      → r ≡ reached_of t rear → Between shares r.sums front (length_of b k)
  asked gentle weight loaded light l fits rear r e f =
      rw (turn.shared, turn.totals, rear_totals rear r e f) (between t head b gentle weight loaded light k l fits)

  pub turned : Gentle t → k < b.count → (rear : ℕ) (r : Reached) (after : Shares) → rear ≡ location - length_of b k → r ≡ reached_of t rear
      → after ≡ plus_of shares r.sums front (length_of b k) (weight_of b k) → Turn t head b rear r.sums after (k + 1)
  turned gentle l rear r after e f g =
      rw (add-one k)
      (record {
        turns = l;
        at = rear_is rear e;
        totals = rear_totals rear r e f;
        shared = g ∙ (rw (turn.shared, turn.totals, rear_totals rear r e f) (shares_on t head b gentle k));
      })
