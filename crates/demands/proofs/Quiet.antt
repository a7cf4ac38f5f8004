-- While a value is kept, last rear is the last present value: an accepted sample is later than the one before it. Assumes nothing.
use mathlib.Core.Path.{◌≡◌, refl, sym, ap, ◌∙◌, subst}
use mathlib.Core.Bool.{Bool, true, false, cond}
use mathlib.Core.List.{List, [], ◌∷◌}
use Prim.Native.Nat.{ℕ, ◌+◌, ◌-◌, ◌≤◌}
use native.Mathlib.Omega.{arith}
use lib.Dec.{ltb, leb}
use borrow.Author.Tests.{leb-true, leb-false, lt-ltb, le-ltb, not-false}
use Rattle.bits.proofs.Ranges.{and-true_left}
use Rattle.refusal.specs.Lowest.{lowest}
use Rattle.refusal.specs.Steps.{kept}
use Rattle.refusal.specs.Verdict.{Verdict, Accepted, Refused}
use Rattle.consist.specs.Consist.{consist_in, read_rules}
use Rattle.sample.specs.declared.Sample.{Sample}
use Rattle.sample.specs.declared.RearPressure.{RearPressure}
use Rattle.sample.specs.declared.RearPressure.TheVariants.{Present, Lost}
use Rattle.brake.specs.declared.Choice.TheVariants.{FiveSeconds}
use Rattle.brake.specs.Rear.{Heard}
use Rattle.brake.specs.declared.Brake.{Brake}
use Rattle.reading.specs.Readings.{heard_after, is_kept, lost_rear, rear_taken, reading_of}
use Rattle.update.specs.Rules.{update_of}
use Rattle.admission.proofs.Admitted.{none_holds}
use Rattle.sampling.specs.Sample.{sample_in}
use Rattle.sampling.specs.Laws.{Lent}
use Rattle.demands.specs.Machine.{Call, opening, sampling}
use Rattle.demands.specs.History.{Begun, course_of, brakes, wrong_time_after, rules_at, Standing, nothing, since, next, standing_after}
use Rattle.demands.specs.Quiet.{Last, none_yet, value, last_with, last_present, counted, heard_in, KeptIsLast, HeardIsLast}

-- ---- the times of accepted samples

abbrev pub Timely : List Lent → Type 0
Timely [] = Unit {0}
Timely (l ∷ h) = (wrong_time_after h (sample_in l.sample) ≡ false) × Timely h

abbrev pub TimelyIn : Standing → Type 0
TimelyIn nothing = Unit {0}
TimelyIn (since c h) = Timely h

timely_next : (st : Standing) → TimelyIn st → (k : Call) → TimelyIn (next st k)
timely_next st t (opening s choice) = by (lowest (read_rules s))
  where
    by : (v : Verdict) → TimelyIn (kept v (since (record { consist = consist_in s; choice = choice }) []) st)
    by Accepted = tt
    by (Refused r) = t
timely_next nothing t (sampling l) = tt
timely_next (since c h) t (sampling l) = by (lowest (rules_at c h l)) refl
  where
    by : (v : Verdict) → lowest (rules_at c h l) ≡ v → TimelyIn (kept v (since c (l ∷ h)) (since c h))
    by Accepted e = let (_, (_, (_, (_, (_, (timely, _)))))) = none_holds (rules_at c h l) e in (timely, t)
    by (Refused r) e = t

pub timely_after : (st : Standing) → TimelyIn st → (ks : List Call) → TimelyIn (standing_after st ks)
unfolding standing_after
timely_after st t [] = t
timely_after st t (k ∷ ks) = timely_after (next st k) (timely_next st t k) ks

-- ---- one sample

heard_step : (r : RearPressure) (time : ℕ) (last : Last) → heard_after (heard_in last) time r ≡ heard_in (last_with r time last)
unfolding heard_after
heard_step (Present pressure) time last = refl
heard_step Lost time last = refl

-- a value that is kept is the last present one
abbrev Kept : Brake → Last → Type 0
Kept k last = (pressure at : ℕ) → last ≡ value pressure at → k.last_time ≤ at + 5 → k.last_rear ≡ pressure

module _ (k : Brake) (time front : ℕ) (choice : k.choice ≡ FiveSeconds) (later : k.last_time ≤ time) where
  rear_step : (r : RearPressure) (last : Last) → k.heard ≡ heard_in last → Kept k last → rear_taken k time front r ≡ counted r last time front
  unfolding rear_taken lost_rear is_kept
  rear_step (Present pressure) last e h = refl
  rear_step Lost none_yet e h = rw (choice, e)
  rear_step Lost (value pressure at) e h = rw (choice, e) (by (leb time (at + 5)) refl)
    where
      by : (b : Bool) → leb time (at + 5) ≡ b → cond b k.last_rear front ≡ cond (ltb 5 (time - at)) front pressure
      by true z = let near = leb-true time (at + 5) z in h pressure at refl (omega arith) ∙ sym (ap (λ (b : Bool). cond b front pressure) (le-ltb 5 (time - at) (omega arith)))
      by false z = sym (ap (λ (b : Bool). cond b front pressure) (lt-ltb 5 (time - at) (omega (arith, leb-false time (at + 5) z))))

pressure_in : Last → ℕ
pressure_in none_yet = 0
pressure_in (value pressure time) = pressure

counted_kept : (r : RearPressure) (last : Last) (time front pressure at : ℕ) → last_with r time last ≡ value pressure at → time ≤ at + 5
    → counted r last time front ≡ pressure
unfolding pressure_in
counted_kept (Present p) last time front pressure at e h = ap pressure_in e
counted_kept Lost last time front pressure at e h =
    ap (λ (l : Last). counted Lost l time front) e ∙ ap (λ (b : Bool). cond b front pressure) (le-ltb 5 (time - at) (omega arith))

-- ---- a history

pub heard_is_last : HeardIsLast
unfolding HeardIsLast course_of last_present update_of
heard_is_last c [] = (refl, refl)
heard_is_last c (l ∷ h) =
    let m = sample_in l.sample in
    let (heard, choice) = heard_is_last c h in
    (ap (λ (x : Heard). heard_after x m.time m.rear) heard ∙ heard_step m.rear m.time (last_present h), choice)

-- the sample before is not later
not_later : (c : Begun) (h : List Lent) (m : Sample) → wrong_time_after h m ≡ false → (brakes c h).last_time ≤ m.time
unfolding course_of update_of
not_later c [] m t = omega arith
not_later c (l ∷ h) m t =
    let last = (sample_in l.sample).time in
    omega (arith, leb-true (last + 1) m.time (and-true_left (leb (last + 1) m.time) (leb m.time (last + 5)) (not-false _ t)))

none_is_no_value : (pressure at : ℕ) → none_yet ≡ value pressure at → ⊥
none_is_no_value pressure at e = let z : ◌≡◌ {A = ℕ} 0 1 = cc in omega arith

module _ (c : Begun) (choice : c.choice ≡ FiveSeconds) where
  counts : (l : Lent) (h : List Lent) → Timely (l ∷ h) → Kept (brakes c h) (last_present h) →
      let m = sample_in l.sample in
      (brakes c (l ∷ h)).last_rear ≡ counted m.rear (last_present h) m.time m.front
  unfolding HeardIsLast course_of update_of reading_of
  counts l h t kept =
      let m = sample_in l.sample in
      let (heard, same) = heard_is_last c h in
      rear_step (brakes c h) m.time m.front (same ∙ choice) (not_later c h m t.0) m.rear (last_present h) heard kept

  stays_kept : (h : List Lent) → Timely h → Kept (brakes c h) (last_present h)
  unfolding course_of update_of last_present
  stays_kept [] t pressure at e near = absurd (none_is_no_value pressure at e)
  stays_kept (l ∷ h) t pressure at e near =
      let m = sample_in l.sample in
      counts l h t (stays_kept h t.1) ∙ counted_kept m.rear (last_present h) m.time m.front pressure at e near

pub kept_is_last : KeptIsLast
unfolding KeptIsLast
kept_is_last ks c l h e choice =
    let t = subst TimelyIn e (timely_after nothing tt ks) in
    counts c choice l h t (stays_kept c choice h t.1)
