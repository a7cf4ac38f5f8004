-- The test of the invariant says exactly that it holds, and the test of an opening finds what an opening gives. Assumes nothing.
use mathlib.Core.Path.{◌≡◌, refl}
use mathlib.Core.Bool.{Bool, true, false, ◌&&◌, false≢true}
use mathlib.Core.Logic.{◌↔◌}
use Prim.Native.Nat.{ℕ, ◌*◌, ◌≤◌}
use lib.Dec.{leb, eqb}
use borrow.Author.Tests.{leb-true, le-leb, eqb-true, eq-eqb}
use Rattle.trend.specs.declared.Sums.{Sums}
use Rattle.trend.specs.Sound.{most, most_seconds, most_pressure}
use Rattle.trend.specs.Sound as trend
use Rattle.learn.specs.declared.Learner.{Learner}
use Rattle.learn.specs.Stage.{stage_number, at_opening, is_at_opening}
use Rattle.learn.specs.Sound.{most_time, Sound, is_sound}
use Rattle.learn.proofs.Stages.{learner_one}

at_most : (x y : ℕ) → (leb x y ≡ true) ↔ (x ≤ y)
at_most x y = (leb-true x y, le-leb x y)

none : (x : ℕ) → (eqb x 0 ≡ true) ↔ (x ≡ 0)
none x = (eqb-true x 0, eq-eqb x 0)

-- two tests, both of them
infixl 30 ◌⊗◌
◌⊗◌ : {a b : Bool} {P Q : Type 0} → ((a ≡ true) ↔ P) → ((b ≡ true) ↔ Q) → ((a && b) ≡ true) ↔ (P × Q)
◌⊗◌ {a = true} {b} f g = (λ h. (f.0 refl, g.0 h), λ p. g.1 p.1)
◌⊗◌ {a = false} {b} f g = (λ h. absurd (false≢true h), λ p. f.1 p.0)

-- ---- the invariant

sums_are : (s : Sums) → (trend.is_sound s ≡ true) ↔ trend.Sound s
unfolding trend.is_sound
sums_are s =
    let all =
    at_most s.count most
    ⊗ at_most s.times (most_seconds * s.count)
    ⊗ at_most s.squares (most_seconds * most_seconds * s.count)
    ⊗ at_most s.pressures (most_pressure * s.count)
    ⊗ at_most s.products (most_seconds * most_pressure * s.count) in (
      λ h. let ((((count, times), squares), pressures), products) = all.0 h in record { count = count; times = times; squares = squares; pressures = pressures; products = products },
      λ h. all.1 ((((h.count, h.times), h.squares), h.pressures), h.products),
    )

sound_is : (l : Learner) → (is_sound l ≡ true) ↔ Sound l
unfolding is_sound
sound_is l =
    let all =
    at_most l.since most_time
    ⊗ at_most l.init most_seconds
    ⊗ at_most l.last most_seconds
    ⊗ at_most l.pressure most_pressure
    ⊗ sums_are l.sums in (
      λ h. let ((((since, init), last), pressure), sums) = all.0 h in record { since = since; init = init; last = last; pressure = pressure; sums = sums },
      λ h. all.1 ((((h.since, h.init), h.last), h.pressure), h.sums),
    )

pub sound_of : (l : Learner) → is_sound l ≡ true → Sound l
sound_of l h = (sound_is l).0 h

pub is_sound_of : (l : Learner) → Sound l → is_sound l ≡ true
is_sound_of l h = (sound_is l).1 h

-- ---- what an opening gives

pub at_opening_is : is_at_opening at_opening ≡ true
unfolding is_at_opening
at_opening_is = refl

pub at_opening_sound : is_sound at_opening ≡ true
unfolding is_sound trend.is_sound
at_opening_sound = refl

pub at_opening_of : (l : Learner) → is_at_opening l ≡ true → l ≡ at_opening
unfolding is_at_opening
at_opening_of l h =
    let s = l.sums in
    let all =
    none (stage_number l.stage)
    ⊗ none l.since
    ⊗ none l.init
    ⊗ none l.last
    ⊗ none l.pressure
    ⊗ none s.count
    ⊗ none s.times
    ⊗ none s.squares
    ⊗ none s.pressures
    ⊗ none s.products in
    let (((((((((stage, since), init), last), pressure), count), times), squares), pressures), products) = all.0 h in
    learner_one l at_opening (rw (stage, since, init, last, pressure, count, times, squares, pressures, products))
