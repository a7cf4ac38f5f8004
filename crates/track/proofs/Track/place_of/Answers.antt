-- A segment that starts at or before a location, with the next one past it, is the location's.
use mathlib.Core.Path.{◌≡◌, refl, ◌∙◌}
use mathlib.Core.Bool.{Bool, true, false, ◌&&◌, false≢true}
use mathlib.Core.List.{List}
use Prim.Native.Nat.{ℕ, ◌+◌, ◌-◌, ◌≤◌, ◌<◌, min}
use native.Mathlib.Nat.{le_refl}
use native.Mathlib.Omega.{arith}
use lib.Dec.{leb, ltb}
use lib.ListN.{get_or}
use borrow.Author.Tests.{ltb-true, leb-true}
use Rattle.profile.specs.Profile.{most}
use Rattle.track.specs.Track.{segments}
use Rattle.track.specs.Totals.{holding_to}
use Rattle.track.specs.Steps.{Rises, place_of}
use Rattle.track.proofs.Holding.{holding_most, holding_here, holding_stays, past}
use Rattle.track.proofs.Track.place_of.Goals as goal

inside : (a x b : ℕ) → (leb a x && ltb x b) ≡ true → (a ≤ x) × (x < b)
inside a x b h = by (leb a x) (ltb x b) refl refl h
  where
    by : (l m : Bool) → leb a x ≡ l → ltb x b ≡ m → (l && m) ≡ true → (a ≤ x) × (x < b)
    by true true e f h = (leb-true _ _ e, ltb-true _ _ f)
    by true false e f h = absurd (false≢true h)
    by false m e f h = absurd (false≢true h)

module _ (starts : List ℕ) (last x near : ℕ) (rises : Rises starts last) (among : near < last) (h : (get_or starts near 0 ≤ x) × (x < get_or starts (near + 1) 0)) where
  here : holding_to starts x last ≡ near
  here = holding_stays starts x last rises near h.1 last (omega arith) (le_refl _) ∙ holding_here starts x near h.0

  still : record { segment = near; feet = x - get_or starts near 0 } ≡ place_of starts last x
  still =
      let e : min x (get_or starts last 0) ≡ x = omega (arith, past starts x last rises near h.1 last among (le_refl _)) in
      rw (here, e)

pub returns-then-start-location : goal.returns-then-start-location
returns-then-start-location c =
    let s = c.args.self.now.starts in
    let near = c.args.near in
    still s (segments c.args.self.now) c.args.location near c.requires (omega (arith, c.if-near-last.true, c.last-last.ensures))
    (inside (get_or s near 0) c.args.location (get_or s (near + 1) 0) c.if-start-location.true)

-- the segment is found
among : (starts : List ℕ) (last x k : ℕ) → last < most → k ≡ holding_to starts x last → k < 257
among starts last x k few e = omega (arith, holding_most starts x last)

pub offset_bounds-self-segment : goal.offset_bounds-self-segment
offset_bounds-self-segment c = omega (arith, among _ _ _ _ c.requires.few c.segment_of-segment.ensures)

pub bounds-self-segment : goal.bounds-self-segment
bounds-self-segment c = among _ _ _ _ c.requires.few c.segment_of-segment.ensures
