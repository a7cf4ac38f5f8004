-- Document 02's R-13, "Say it for a whole trip": two sessions that are opened alike and given samples that agree in everything except speed. Nothing is
-- claimed for emergency, "which waits on each session's own penalty". Statements over machines; proofs/{Sides,Faster}.antt prove them.
use Rattle.std.specs.Prelude.{◌≡◌, true, false, cond, List, [], ◌∷◌, map, ℕ, suc, ◌≤◌, take, drop, Float}
use Rattle.std.specs.Float.Ieee.{le}
use Rattle.hundredths.specs.declared.Rounding.TheVariants.{Up}
use Rattle.hundredths.specs.Reading.{most_speed, is_bad, hundredths_of}
use Rattle.refusal.specs.Verdict.{Verdict}
use Rattle.sample.specs.declared.Sample.{Sample}
use Rattle.sample.specs.Sample.{raw_in}
use Rattle.decision.specs.declared.Decision.{Decision}
use Rattle.decision.specs.Decision.{read_decision}
use Rattle.brake.specs.declared.Choice.{Choice}
use Rattle.session.specs.declared.Session.{Session}
use Rattle.sampling.specs.Sample.{sample_in}
use Rattle.sampling.specs.Laws.{Lent}
use Rattle.demands.specs.Machine.{opening, sampling, Lends, Machine, call, Holding, Accepts, record_of}
use Rattle.demands.specs.Program.{by_value}
use Rattle.demands.specs.Program as program
use Rattle.demands.specs.Library.{in_bytes}
use Rattle.demands.specs.Library as library

-- ---- two trips

-- "agree in everything except speed, and each speed in the first is no lower", in hundredths
pub record Faster (m n : Sample) : Type 0 where
  pub time : m.time ≡ n.time
  pub head : m.head ≡ n.head
  pub front : m.front ≡ n.front
  pub rear : m.rear ≡ n.rear
  pub speed : n.speed ≤ m.speed

-- how two samples' bytes agree
abbrev pub Agreement : Type 1
Agreement = (s s' : List ℕ) → Type 0

-- by what the rules read of them
abbrev pub InHundredths : Agreement
InHundredths s s' = Faster (sample_in s) (sample_in s')

-- by bytes, outside the speed's four, of which the first's reading is no lower
pub record ApartInSpeed (s s' : List ℕ) : Type 0 where
  pub before : take 8 s ≡ take 8 s'
  pub behind : drop 12 s ≡ drop 12 s'
  pub speed : le (raw_in s').speed (raw_in s).speed ≡ true

-- "Profiles and targets agree call by call."
pub record Beside (Agree : Agreement) (l l' : Lent) : Type 0 where
  pub profile : l.profile ≡ l'.profile
  pub targets : l.targets ≡ l'.targets
  pub sample : Agree l.sample l'.sample

-- the calls of two trips, of the first and beside it of the second
abbrev pub Trips : Type 0
Trips = List (Lent × Lent)

abbrev pub first_trip : Trips → List Lent
first_trip ps = map (λ p. p.0) ps

abbrev pub second_trip : Trips → List Lent
second_trip ps = map (λ p. p.1) ps

abbrev pub EachBeside : Agreement → Trips → Type 0
EachBeside Agree [] = Unit {0}
EachBeside Agree (p ∷ ps) = Beside Agree p.0 p.1 × EachBeside Agree ps

abbrev pub LendsTrips : Trips → Type 0
LendsTrips [] = Unit {0}
LendsTrips (p ∷ ps) = Lends (sampling p.0) × Lends (sampling p.1) × LendsTrips ps

module _ {S T : Type 0} (m : Machine S T) where
  -- "All samples are accepted"
  abbrev pub AcceptsEach : Holding S T → S → List Lent → Type 0
  AcceptsEach h z [] = Unit {0}
  AcceptsEach h z (l ∷ ls) = let r = call m z (sampling l) in Accepts h r × AcceptsEach h r.state ls

  -- the penalty's decision of each sample, as its output reads
  abbrev pub decisions : S → List Lent → List Decision
  decisions z [] = []
  decisions z (l ∷ ls) = let r = call m z (sampling l) in (read_decision (record_of false r.out)).1 ∷ decisions r.state ls

-- ---- what is said of them

-- of two decisions, the first trip's and the second's
pub record NoLater (d d' : Decision) : Type 0 where
  -- "Brake states agree throughout"
  pub state : d.state ≡ d'.state
  pub penalty : d'.penalty ≡ true → d.penalty ≡ true
  -- the second's stop is not beyond the first's
  pub stop : d'.stop ≤ d.stop

abbrev pub EachNoLater : List Decision → List Decision → Type 0
EachNoLater [] [] = Unit {0}
EachNoLater [] (d' ∷ ds') = ⊥
EachNoLater (d ∷ ds) [] = ⊥
EachNoLater (d ∷ ds) (d' ∷ ds') = NoLater d d' × EachNoLater ds ds'

-- how many decisions come before the first penalty
abbrev pub until_penalty : List Decision → ℕ
until_penalty [] = 0
until_penalty (d ∷ ds) = cond d.penalty 0 (suc (until_penalty ds))

-- "Two sessions open with the same consist and choices", from whatever stood before. "Then the first session's penalty comes no later than the second's."
abbrev pub WholeTrip : Agreement → {S T S' T' : Type 0} → Holding S T → Holding S' T' → Machine S T → Machine S' T' → Type 0
WholeTrip Agree {S} {T} {S'} {T'} h h' m m' =
    (z : S) (z' : S') (s : List ℕ) (choice : Choice) (ps : Trips) → h.Fits z → h'.Fits z' → Lends (opening s choice) → LendsTrips ps → EachBeside Agree ps →
    let o = call m z (opening s choice) in
    let o' = call m' z' (opening s choice) in
    Accepts h o → Accepts h' o' → AcceptsEach m h o.state (first_trip ps) → AcceptsEach m' h' o'.state (second_trip ps) →
    let ds = decisions m o.state (first_trip ps) in
    let ds' = decisions m' o'.state (second_trip ps) in
    EachNoLater ds ds' × (until_penalty ds ≤ until_penalty ds')

-- the Rattle program or the C library, on either side
pub record EitherSide (Agree : Agreement) : Type 0 where
  pub programs : (m m' : Machine Session Verdict) → program.Meets m → program.Meets m' → WholeTrip Agree by_value by_value m m'
  pub program_first : (m : Machine Session Verdict) (m' : Machine (List ℕ) ℕ) → program.Meets m → library.Meets m' → WholeTrip Agree by_value in_bytes m m'
  pub library_first : (m : Machine (List ℕ) ℕ) (m' : Machine Session Verdict) → library.Meets m → program.Meets m' → WholeTrip Agree in_bytes by_value m m'
  pub libraries : (m m' : Machine (List ℕ) ℕ) → library.Meets m → library.Meets m' → WholeTrip Agree in_bytes in_bytes m m'

pub record Trip13 : Type 0 where
  pub in_hundredths : EitherSide InHundredths
  pub in_bytes : EitherSide ApartInSpeed

-- ---- readings

-- "rounded up" keeps the order of readings that are not refused
unfoldable pub SpeedsKeepOrder : Type 0
SpeedsKeepOrder = (x y : Float) → is_bad most_speed x ≡ false → is_bad most_speed y ≡ false → le x y ≡ true → hundredths_of Up x ≤ hundredths_of Up y
