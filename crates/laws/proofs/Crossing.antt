-- Document 01's first crossing and the location that R-2 puts in its place: the same for a stop, never short of it for a speed; and a walk that is cut
-- has none for any. Assumes nothing.
use mathlib.Core.Path.{◌≡◌, refl, sym, ap, ◌∙◌}
use mathlib.Core.Bool.{Bool, true, false, ◌&&◌, ◌||◌, true≢false}
use Prim.Native.Nat.{ℕ, zero, suc, ◌+◌, ◌*◌, ◌≤◌, ◌<◌}
use native.Mathlib.Nat.{le_refl}
use native.Mathlib.Omega.{arith}
use lib.Dec.{leb}
use borrow.Author.Tests.{leb-true, leb-false}
use Rattle.record.specs.Location.{no_stop}
use Rattle.consist.specs.declared.Consist.{Consist}
use Rattle.step.specs.declared.Run.{Run}
use Rattle.step.specs.Step.{steps_most, Ground, step_of}
use Rattle.walk.specs.Walk.{Arrival, at, never, arrival_by, stays, walk_to, start, arrival_for}
use Rattle.walk.proofs.Equations.{stays_ended, stays_cut, stays_above, stays_on, walk_at, walk_cut, walk_on}
use Rattle.walk.proofs.Reach.{NoFurther, verdict_no_further}
use Rattle.judge.specs.Cases.{NoneIsBeyond}
use Rattle.judge.proofs.Cases.{none_is_beyond}
use Rattle.laws.specs.Compare.{NotShort}
use Rattle.laws.specs.Crossing.{crossing_to, crossing_for, Crossings}
use Rattle.laws.proofs.Compare.{ended_or_on, walk_from}
use Rattle.laws.proofs.Alongside.{location_order}
use Rattle.laws.proofs.Approaches.{called_grows}

no_location : {h : ℕ} → at h ≡ never → ⊥
no_location e = true≢false (ap located e)
  where
    located : Arrival → Bool
    located (at h) = true
    located never = false

module _ (c : Consist) (force : ℕ → ℕ) (ground : Ground) where
  abbrev next : Run → Run
  next r = step_of c force ground r

  stop_same : (n : ℕ) (r : Run) → walk_to c force ground 0 n r ≡ crossing_to c force ground 0 n r
  unfolding walk_to stays crossing_to
  stop_same zero r = refl
  stop_same (suc n) r = by (leb r.q 0) (stays c force ground 0 n (next r)) (stop_same n (next r))
    where
      by : (b s : Bool) {x y : Arrival} → x ≡ y → arrival_by (b || b && s) r.head x ≡ arrival_by b r.head y
      by true s e = refl
      by false s e = e

  crossing_no_further : (limit m n : ℕ) (r : Run) → r.head + 16 * n ≤ m → NoFurther m (crossing_to c force ground limit n r)
  unfolding crossing_to step_of
  crossing_no_further limit m zero r h = verdict_no_further m r.head (leb r.q limit) never (omega arith) tt
  crossing_no_further limit m (suc n) r h =
      verdict_no_further m r.head (leb r.q limit) _ (omega arith) (crossing_no_further limit m n (next r) (omega arith))

  stop_on : (n : ℕ) (r : Run) → 0 < r.q → walk_to c force ground 0 (suc n) r ≡ walk_to c force ground 0 n (next r)
  stop_on n r some = walk_on c force ground 0 r n (stays_above c force ground 0 r (suc n) some)

  -- a walk that has ended has a location, for any speed
  has_location : (limit n : ℕ) (r : Run) → r.q ≡ 0 → walk_to c force ground limit n r ≡ never → ⊥
  has_location limit n r z e = no_location (sym (walk_at c force ground limit r n (stays_ended c force ground limit r n z)) ∙ e)

  module _ (limit : ℕ) where
    not_short : (n : ℕ) (r : Run) → NotShort (walk_to c force ground limit n r) (crossing_to c force ground limit n r)
    unfolding crossing_to
    not_short zero r = by (leb r.q limit) refl
      where
        by : (b : Bool) → leb r.q limit ≡ b → NotShort (walk_to c force ground limit zero r) (arrival_by b r.head never)
        by true e = walk_from c force ground limit zero r r.head (le_refl _)
        by false e = let above = leb-false r.q limit e in rw (walk_cut c force ground limit r (omega arith)) tt
    not_short (suc n) r = by (not_short n (next r)) (leb r.q limit) refl
      where
        by : NotShort (walk_to c force ground limit n (next r)) (crossing_to c force ground limit n (next r)) → (b : Bool) → leb r.q limit ≡ b →
            NotShort (walk_to c force ground limit (suc n) r) (arrival_by b r.head (crossing_to c force ground limit n (next r)))
        by after true e = walk_from c force ground limit (suc n) r r.head (le_refl _)
        by after false e = rw (walk_on c force ground limit r n (stays_above c force ground limit r (suc n) (leb-false _ _ e))) after

    -- where there is no stop, the walk stays at or below nothing
    none_stays : (n : ℕ) (r : Run) → walk_to c force ground 0 n r ≡ never → stays c force ground limit n r ≡ false
    none_stays zero r e = ended_or_on r.q (λ z. absurd (has_location 0 zero r z e)) (stays_cut c force ground limit r)
    none_stays (suc n) r e =
        ended_or_on r.q (λ z. absurd (has_location 0 (suc n) r z e))
        (λ some. by some (none_stays n (next r) (sym (stop_on n r some) ∙ e)) (leb r.q limit) refl)
      where
        by : 0 < r.q → stays c force ground limit n (next r) ≡ false → (b : Bool) → leb r.q limit ≡ b → stays c force ground limit (suc n) r ≡ false
        by some after true h = stays_on c force ground limit r n some (leb-true _ _ h) ∙ after
        by some after false h = stays_above c force ground limit r (suc n) (leb-false _ _ h)

    missing : (n : ℕ) (r : Run) → walk_to c force ground 0 n r ≡ never → walk_to c force ground limit n r ≡ never
    missing zero r e = ended_or_on r.q (λ z. absurd (has_location 0 zero r z e)) (walk_cut c force ground limit r)
    missing (suc n) r e =
        ended_or_on r.q (λ z. absurd (has_location 0 (suc n) r z e))
        (λ some. walk_on c force ground limit r n (none_stays (suc n) r e) ∙ missing n (next r) (sym (stop_on n r some) ∙ e))

    only_then : (n : ℕ) (r : Run) → walk_to c force ground limit n r ≡ never → walk_to c force ground 0 n r ≡ never
    only_then zero r e = ended_or_on r.q (λ z. absurd (has_location limit zero r z e)) (walk_cut c force ground 0 r)
    only_then (suc n) r e =
        ended_or_on r.q (λ z. absurd (has_location limit (suc n) r z e))
        (λ some. stop_on n r some ∙ by (only_then n (next r)) (stays c force ground limit (suc n) r) refl)
      where
        by : (walk_to c force ground limit n (next r) ≡ never → walk_to c force ground 0 n (next r) ≡ never) →
            (b : Bool) → stays c force ground limit (suc n) r ≡ b → walk_to c force ground 0 n (next r) ≡ never
        by after true s = absurd (no_location (sym (walk_at c force ground limit r (suc n) s) ∙ e))
        by after false s = after (sym (walk_on c force ground limit r n s) ∙ e)

pub crossings : Crossings
unfolding Crossings NoneIsBeyond arrival_for crossing_for
crossings c force ground head v = record {
  stop_stands = stop_same c force ground steps_most (start head v);
  not_short = λ u. not_short c force ground (u * u) steps_most (start head v);
  still_called = λ near offset target u.
      called_grows offset offset head head v v target u _ _ (le_refl _) refl (le_refl _)
      (location_order (arrival_for c force ground head v u) (crossing_for c force ground head v u) (not_short c force ground (u * u) steps_most (start head v))
      (crossing_no_further c force ground (u * u) no_stop steps_most (start head v) (omega arith)));
  missing = λ u. missing c force ground (u * u) steps_most (start head v);
  only_then = λ u. only_then c force ground (u * u) steps_most (start head v);
  cut_calls = λ cut offset target u h judged.
      rw (missing c force ground (u * u) steps_most (start head v) cut) (none_is_beyond offset head v target u h judged);
}
