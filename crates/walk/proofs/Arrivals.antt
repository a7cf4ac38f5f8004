-- One pass for the stop and for eight target speeds: what it keeps true from step to step, and what it answers as it ends.
-- Assumes nothing.
use mathlib.Core.Path.{◌≡◌, refl, sym, ap, ap₂, ◌∙◌}
use mathlib.Core.Bool.{Bool, true, false, cond, ◌||◌}
use mathlib.Core.List.{List, [], ◌∷◌, map}
use Prim.Native.Nat.{ℕ, suc, ◌+◌, ◌*◌, ◌-◌, ◌≤◌, ◌<◌}
use native.Mathlib.Nat.{zero-lt-suc}
use native.Mathlib.Omega.{arith}
use lib.Dec.{leb, eqb}
use lib.ListN.{length, get_or, replicate, get_or-replicate}
use borrow.Author.Tests.{eqb-true, eqb-false, ne_eqb, le-leb, leb-true, leb-false, lt-leb}
use Rattle.whole.specs.Root.{root_of}
use Rattle.whole.proofs.Roots.{root_pos}
use Rattle.record.specs.Location.{farthest, no_stop}
use Rattle.consist.specs.declared.Consist.{Consist}
use Rattle.targets.specs.Targets.{most}
use Rattle.step.specs.declared.Run.{Run}
use Rattle.step.specs.Step.{steps_most, Ground, step_of}
use Rattle.walk.specs.declared.Band.{Band}
use Rattle.walk.specs.Walk.{Arrival, at, never, stays, walk_to, start, arrival_for, location_of, predict_of}
use Rattle.step.specs.Range.{time_most}
use Rattle.step.specs.Gain.{gain_most}
use Rattle.walk.specs.Marks.{closed_at, mark_of, Marked, Kept, Quiet, prediction_with, ended_with}
use Rattle.walk.proofs.Equations.{stays_ended, stays_cut, stays_above, stays_on, walk_at, walk_cut, walk_on}
use Rattle.step.proofs.Bounds.{time_most_lem}

-- ---- one target speed u, whose location is l

-- where a walk of n more steps from r arrives
abbrev pub to_come : Consist → (ℕ → ℕ) → Ground → ℕ → ℕ → Run → ℕ
to_come c force ground u n r = location_of (walk_to c force ground (u * u) n r)

-- l is what is closed already, or here, where the walk stays at or below the speed; else it is to come
pub record Sought (c : Consist) (force : ℕ → ℕ) (ground : Ground) (u l n : ℕ) (r : Run) (arrival : ℕ) : Type 0 where
  pub is : l ≡ cond (stays c force ground (u * u) n r) (closed_at r arrival) (to_come c force ground u n r)

-- an arrival that is open is to come, whether the walk stays or not
open_comes : (c : Consist) (force : ℕ → ℕ) (ground : Ground) (u n : ℕ) (r : Run)
    → to_come c force ground u n r ≡ cond (stays c force ground (u * u) n r) r.head (to_come c force ground u n r)
open_comes c force ground u n r = by (stays c force ground (u * u) n r) refl
  where
    by : (b : Bool) → stays c force ground (u * u) n r ≡ b → to_come c force ground u n r ≡ cond b r.head (to_come c force ground u n r)
    by true e = ap location_of (walk_at c force ground (u * u) r n e)
    by false e = refl

-- an arrival that is closed is not open
is_closed : (r : Run) (arrival : ℕ) → r.head < no_stop → eqb (closed_at r arrival) no_stop ≡ false
is_closed r arrival near = by (eqb arrival no_stop) refl
  where
    by : (b : Bool) → eqb arrival no_stop ≡ b → eqb (cond b r.head arrival) no_stop ≡ false
    by true e = ne_eqb r.head no_stop (λ z. omega arith)
    by false e = e

module _ {c : Consist} {force : ℕ → ℕ} {ground : Ground} {u l n : ℕ} {r : Run} {arrival : ℕ} (sought : Sought c force ground u l n r arrival) where
  if_stays : (b : Bool) → stays c force ground (u * u) n r ≡ b → l ≡ cond b (closed_at r arrival) (to_come c force ground u n r)
  if_stays b e = sought.is ∙ ap (λ (x : Bool). cond x (closed_at r arrival) (to_come c force ground u n r)) e

  found_stop : r.q ≡ 0 → mark_of r u arrival ≡ l
  unfolding mark_of
  found_stop h = rw (le-leb r.q (u * u) (omega arith)) (sym (if_stays true (stays_ended c force ground (u * u) r n h)))

  none_cut : n ≡ 0 → 0 < r.q → l ≡ no_stop
  none_cut z h =
      if_stays false (ap (λ (k : ℕ). stays c force ground (u * u) k r) z ∙ stays_cut c force ground (u * u) r h)
      ∙ ap (λ (k : ℕ). to_come c force ground u k r) z
      ∙ ap location_of (walk_cut c force ground (u * u) r h)

  module _ (near : r.head < no_stop) (moves : 0 < r.q) (k : ℕ) (e : n ≡ suc k) where
    abbrev next : Run
    next = step_of c force ground r

    -- the walk does not stay from here on: the location is to come after the step
    later : stays c force ground (u * u) (suc k) r ≡ false → l ≡ to_come c force ground u k next
    later s =
        if_stays false (ap (λ (j : ℕ). stays c force ground (u * u) j r) e ∙ s)
        ∙ ap (λ (j : ℕ). to_come c force ground u j r) e
        ∙ ap location_of (walk_on c force ground (u * u) r k s)

    above : u * u < r.q → l ≡ cond (stays c force ground (u * u) k next) next.head (to_come c force ground u k next)
    above h = later (stays_above c force ground (u * u) r (suc k) h) ∙ open_comes c force ground u k next

    below : r.q ≤ u * u → l ≡ cond (stays c force ground (u * u) k next) (closed_at r arrival) (to_come c force ground u k next)
    below h = by (stays c force ground (u * u) k next) refl
      where
        on : stays c force ground (u * u) (suc k) r ≡ stays c force ground (u * u) k next
        on = stays_on c force ground (u * u) r k moves h

        by : (b : Bool) → stays c force ground (u * u) k next ≡ b → l ≡ cond b (closed_at r arrival) (to_come c force ground u k next)
        by true f = if_stays true (ap (λ (j : ℕ). stays c force ground (u * u) j r) e ∙ on ∙ f)
        by false f = later (on ∙ f)

    sought_on : Sought c force ground u l k next (mark_of r u arrival)
    unfolding mark_of
    sought_on = record { is = by (leb r.q (u * u)) refl }
      where
        by : (b : Bool) → leb r.q (u * u) ≡ b
            → l ≡ cond (stays c force ground (u * u) k next) (closed_at next (cond b (closed_at r arrival) no_stop)) (to_come c force ground u k next)
        by true f = rw (is_closed r arrival near) (below (leb-true _ _ f))
        by false f = above (leb-false _ _ f)

-- ---- all of them, and the stop

-- n steps of a walk from `head` at the speed v have brought it to r
pub record Walked (c : Consist) (force : ℕ → ℕ) (ground : Ground) (head v : ℕ) (speeds : List ℕ) (n : ℕ) (r : Run) (arrivals : List ℕ) : Type 0 where
  pub steps : n ≤ steps_most
  pub head_is : r.head ≡ head + 16 * n
  pub clock_most : r.clock ≤ n * time_most
  pub square_most : r.q ≤ v * v + gain_most * n
  pub size : length arrivals ≡ most
  pub stop : arrival_for c force ground head v 0 ≡ walk_to c force ground 0 (steps_most - n) r
  pub each : (i : ℕ) → i < most →
      let u = get_or speeds i 0 in Sought c force ground u (location_of (arrival_for c force ground head v u)) (steps_most - n) r (get_or arrivals i 0)

pub walk_begins : (c : Consist) (force : ℕ → ℕ) (ground : Ground) (head v : ℕ) (speeds : List ℕ)
    → Walked c force ground head v speeds 0 (start head v) (replicate most no_stop)
unfolding arrival_for
walk_begins c force ground head v speeds =
    record {
      steps = omega arith;
      head_is = omega arith;
      clock_most = omega arith;
      square_most = omega arith;
      size = refl;
      stop = refl;
      each = λ i h. record { is = rw (get_or-replicate most i no_stop 0 h) (open_comes c force ground (get_or speeds i 0) steps_most (start head v)) };
    }

-- inside the band nothing changes
pub unmarked : (r : Run) (speeds arrivals : List ℕ) (b : Band) → length arrivals ≡ most → Quiet speeds arrivals b → b.low < r.q → r.q ≤ b.high
    → Marked r speeds arrivals arrivals
unfolding mark_of
unmarked r speeds arrivals b size quiet low high =
    record { size = size; each = λ i k. go (get_or arrivals i 0) (get_or speeds i 0) (quiet.each i k) }
  where
    go : (p u : ℕ) → Kept b (u * u) p → p ≡ mark_of r u p
    go p u kept = by (eqb p no_stop) refl
      where
        by : (o : Bool) → eqb p no_stop ≡ o → p ≡ cond (leb r.q (u * u)) (cond o r.head p) no_stop
        by true e =
            let f = eqb-true p no_stop e in
            rw (lt-leb r.q (u * u) (omega (arith, kept.opened f))) f
        by false e =
            let f = kept.closed (eqb-false p no_stop e) in
            rw (le-leb r.q (u * u) (omega arith))

mapped : (f : ℕ → ℕ) (us ps : List ℕ) → length ps ≡ length us → ((i : ℕ) → i < length us → get_or ps i 0 ≡ f (get_or us i 0)) → ps ≡ map f us
mapped f [] [] e h = refl
mapped f [] (p ∷ ps) e h = absurd (omega arith)
mapped f (u ∷ us) [] e h = absurd (omega arith)
mapped f (u ∷ us) (p ∷ ps) e h = ap₂ ◌∷◌ (h 0 (zero-lt-suc _)) (mapped f us ps (omega arith) (λ i k. h (suc i) (omega arith)))

module _ {c : Consist} {force : ℕ → ℕ} {ground : Ground} {head v : ℕ} {speeds : List ℕ} {n : ℕ} {r : Run} {arrivals : List ℕ}
    (eight : length speeds ≡ most) (w : Walked c force ground head v speeds n r arrivals) where
  abbrev pub Answers : Arrival → List ℕ → Type 0
  Answers p ps = prediction_with (location_of p) ps ≡ predict_of c force ground head v speeds

  -- from the stop's arrival and from every other
  answer : (p : Arrival) (ps : List ℕ) → length ps ≡ most → arrival_for c force ground head v 0 ≡ p
      → ((i : ℕ) → i < most → get_or ps i 0 ≡ location_of (arrival_for c force ground head v (get_or speeds i 0))) → Answers p ps
  unfolding predict_of
  answer p ps size e h =
      ap₂ (λ (q : Arrival) (qs : List ℕ). prediction_with (location_of q) qs) (sym e)
      (mapped (λ (u : ℕ). location_of (arrival_for c force ground head v u)) speeds ps (size ∙ sym eight) (λ i k. h i (omega arith)))

  module _ {now : List ℕ} (marked : Marked r speeds arrivals now) (near : head ≤ farthest) where
    near_stop : r.head < no_stop
    near_stop = omega arith

    answer_stop : r.q ≡ 0 → Answers (at r.head) now
    answer_stop h =
        answer (at r.head) now marked.size
        (w.stop ∙ walk_at c force ground 0 r (steps_most - n) (stays_ended c force ground 0 r (steps_most - n) h))
        (λ i k. marked.each i k ∙ found_stop (w.each i k) h)

    answer_never : 0 < r.q → n ≡ steps_most → Answers never (replicate most no_stop)
    answer_never h e =
        let z : steps_most - n ≡ 0 = omega arith in
        answer never (replicate most no_stop) refl
        (w.stop ∙ ap (λ (k : ℕ). walk_to c force ground 0 k r) z ∙ walk_cut c force ground 0 r h)
        (λ i k. get_or-replicate most i no_stop 0 k ∙ sym (none_cut (w.each i k) z h))

    -- as the walk ends, by q or by the last step
    pub answer_ended : (eqb r.q 0 || eqb n steps_most) ≡ true → ended_with r now ≡ predict_of c force ground head v speeds
    answer_ended h = by (eqb r.q 0) refl h
      where
        by : (b : Bool) → eqb r.q 0 ≡ b → (b || eqb n steps_most) ≡ true
            → cond b (prediction_with r.head now) (prediction_with no_stop (replicate most no_stop)) ≡ predict_of c force ground head v speeds
        by true e l = answer_stop (eqb-true r.q 0 e)
        by false e l = let some = eqb-false r.q 0 e in answer_never (omega (arith, some)) (eqb-true n steps_most l)

    pub walks_on : 0 < r.q → n < steps_most → (step_of c force ground r).q ≤ r.q + gain_most
        → Walked c force ground head v speeds (n + 1) (step_of c force ground r) now
    unfolding step_of
    walks_on h l gained =
        let e : steps_most - n ≡ suc (steps_most - (n + 1)) = omega arith in
        record {
          steps = omega arith;
          head_is = omega arith;
          clock_most = omega (arith, time_most_lem (root_of r.q) (root_pos r.q h));
          square_most = omega (arith, w.square_most, gained);
          size = marked.size;
          stop =
              w.stop
              ∙ ap (λ (k : ℕ). walk_to c force ground 0 k r) e
              ∙ walk_on c force ground 0 r (steps_most - (n + 1)) (stays_above c force ground 0 r (suc (steps_most - (n + 1))) h);
          each = λ i k. rw (marked.each i k) (sought_on (w.each i k) near_stop h (steps_most - (n + 1)) e);
        }
