-- Document 02's R-7, "A rear device that goes quiet", by the history: "when more than 5 seconds have passed since the last present value, or there was none yet,
-- a lost rear counts as equal to front." Statements; proofs/Quiet.antt proves them.
use Rattle.std.specs.Prelude.{◌≡◌, cond, List, [], ◌∷◌, ℕ, ◌-◌, ltb}
use Rattle.sample.specs.declared.RearPressure.{RearPressure}
use Rattle.sample.specs.declared.RearPressure.TheVariants.{Present, Lost}
use Rattle.brake.specs.declared.Choice.TheVariants.{FiveSeconds}
use Rattle.brake.specs.Rear.{Heard}
use Rattle.brake.specs.Rear.{Never, At}
use Rattle.sampling.specs.Sample.{sample_in}
use Rattle.sampling.specs.Laws.{Lent}
use Rattle.demands.specs.Machine.{Call}
use Rattle.demands.specs.History.{Begun, brakes, nothing, since, standing_after}

-- "the last present value", with its time, or that "there was none yet"
pub data Last : Type 0 where
  none_yet : Last
  value : (pressure time : ℕ) → Last

-- with one sample more
abbrev pub last_with : RearPressure → (time : ℕ) → Last → Last
last_with (Present pressure) time before = value pressure time
last_with Lost time before = before

-- of the samples accepted since the opening, the latest first
unfoldable pub last_present : List Lent → Last
last_present [] = none_yet
last_present (l ∷ h) = let m = sample_in l.sample in last_with m.rear m.time (last_present h)

-- what a sample's rear counts as: "when more than 5 seconds have passed since the last present value, .. as equal to front"
abbrev pub counted : RearPressure → Last → (time front : ℕ) → ℕ
counted (Present pressure) last time front = pressure
counted Lost none_yet time front = front
counted Lost (value pressure at) time front = cond (ltb 5 (time - at)) front pressure

abbrev pub heard_in : Last → Heard
heard_in none_yet = Never
heard_in (value pressure time) = At time

-- whatever was called: by default the rear of the last sample l, after the samples h, counts as that, and "the value so counted is held as last rear"
unfoldable pub KeptIsLast : Type 0
KeptIsLast =
    (ks : List Call) (c : Begun) (l : Lent) (h : List Lent) → standing_after nothing ks ≡ since c (l ∷ h) → c.choice ≡ FiveSeconds →
    let m = sample_in l.sample in
    (brakes c (l ∷ h)).last_rear ≡ counted m.rear (last_present h) m.time m.front

-- and under either choice what is held beside it is the time of the last present value, and the choice of the opening
unfoldable pub HeardIsLast : Type 0
HeardIsLast = (c : Begun) (h : List Lent) → ((brakes c h).heard ≡ heard_in (last_present h)) × ((brakes c h).choice ≡ c.choice)
