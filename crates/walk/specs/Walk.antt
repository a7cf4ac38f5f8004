-- The walk: "Steps of 16 ft, at most 2,048, made while q is above 0." Definitions only.
use Rattle.std.specs.Prelude.{Bool, true, false, ◌&&◌, ◌||◌, List, map, ℕ, zero, suc, ◌*◌, leb}
use Rattle.record.specs.Location.{no_stop}
use Rattle.consist.specs.declared.Consist.{Consist}
use Rattle.step.specs.declared.Run.{Run}
use Rattle.walk.specs.declared.Prediction.{Prediction}
use Rattle.step.specs.Step.{steps_most, Ground, step_of}

-- how far the steps go
abbrev pub reach : ℕ
reach = 32768

-- a location, or none
pub data Arrival : Type 0 where
  at : ℕ → Arrival
  never : Arrival

-- what a walk answers with its head at h: that head; or what the rest of it answers
abbrev pub arrival_by : Bool → ℕ → Arrival → Arrival
arrival_by true h rest = at h
arrival_by false h rest = rest

-- document 02's R-2: whether "to the end of the walk", where q is "0 or less", q "stays at or below" the limit; "A walk cut at its step limit", here
-- after n steps, "with q above 0" does not
unfoldable pub stays : Consist → (ℕ → ℕ) → Ground → ℕ → ℕ → Run → Bool
stays c force terrain limit zero r = leb r.q 0
stays c force terrain limit (suc n) r =
    let rest : Bool = stays c force terrain limit n (step_of c force terrain r) in
    leb r.q 0 || leb r.q limit && rest

-- "the first head from which" it does, in n steps
unfoldable pub walk_to : Consist → (ℕ → ℕ) → Ground → ℕ → ℕ → Run → Arrival
walk_to c force terrain limit zero r = arrival_by (stays c force terrain limit zero r) r.head never
walk_to c force terrain limit (suc n) r =
    let rest : Arrival = walk_to c force terrain limit n (step_of c force terrain r) in
    arrival_by (stays c force terrain limit (suc n) r) r.head rest

-- "It starts with clock t = 0, squared speed q = speed squared."
abbrev pub start : ℕ → ℕ → Run
start head v = record { head = head; clock = 0; q = v * v }

-- "The location becomes the first head from which, to the end of the walk, the speed stays at or below the target's." For the stop the speed is 0.
unfoldable pub arrival_for : Consist → (ℕ → ℕ) → Ground → ℕ → ℕ → ℕ → Arrival
arrival_for c force terrain head v u = walk_to c force terrain (u * u) steps_most (start head v)

-- as in the decision's record: "16,777,215 for no stop"
abbrev pub location_of : Arrival → ℕ
location_of (at h) = h
location_of never = no_stop

-- one walk: the stop, and the location for each target speed
unfoldable pub predict_of : Consist → (ℕ → ℕ) → Ground → ℕ → ℕ → List ℕ → Prediction
predict_of c force terrain head v speeds = record {
  stop = location_of (arrival_for c force terrain head v 0);
  arrivals = map (λ u. location_of (arrival_for c force terrain head v u)) speeds;
}
