-- The scanned sums under a train are differences of two totals. Proved once of weight × feet over ℤ: grade and curvature are two such weights.
-- Assumes nothing.
use mathlib.Core.Path.{◌≡◌, refl, sym, ap, ap₂, ◌∙◌}
use Prim.Native.Nat.{ℕ, zero, suc, ◌+◌, ◌-◌, ◌≤◌, ◌<◌, min, max}
use native.Mathlib.Decide.{dec_le}
use native.Mathlib.Numerals.{add-one}
use native.Mathlib.Nat.{le_refl}
use native.Mathlib.Omega.{arith}
use lib.IntN.{ℤ, pos, ◌+ℤ◌, ◌-ℤ◌, ◌*ℤ◌}
use Rattle.whole.proofs.Parts.{up, dn, parts_eq, add_parts, sub_parts, times_up, times_dn}
use Rattle.track.specs.declared.Track.{Track}
use Rattle.track.specs.Track.{at, feet, grade_feet, curvature_feet, segments}
use Rattle.track.specs.Rising.{Rising}
use Rattle.track.specs.Totals.{all_feet, grade_total, curvature_total, holding_to, holding, feet_to, grade_to, curvature_to, Totalled}
use Rattle.track.proofs.Holding.{holding_here, holding_before}

-- ---- sums of weight × feet

-- no feet add nothing
none : (z w : ℤ) → z +ℤ pos 0 *ℤ w ≡ z
none z w = parts_eq (z +ℤ pos 0 *ℤ w) z (omega (arith, add_parts z (pos 0 *ℤ w), times_up 0 w, times_dn 0 w))

-- feet that add up
added : (a b w : ℤ) (f g : ℕ) → (a +ℤ pos f *ℤ w) +ℤ (b +ℤ pos g *ℤ w) ≡ (a +ℤ b) +ℤ pos (f + g) *ℤ w
added a b w f g =
    let p = pos f *ℤ w in
    let q = pos g *ℤ w in
    parts_eq ((a +ℤ p) +ℤ (b +ℤ q)) ((a +ℤ b) +ℤ pos (f + g) *ℤ w)
    (omega (
      arith,
      add_parts a p,
      add_parts b q,
      add_parts (a +ℤ p) (b +ℤ q),
      add_parts a b,
      add_parts (a +ℤ b) (pos (f + g) *ℤ w),
      times_up f w,
      times_dn f w,
      times_up g w,
      times_dn g w,
      times_up (f + g) w,
      times_dn (f + g) w,
    ))

taken : (a b c : ℤ) → a +ℤ b ≡ c → a ≡ c -ℤ b
taken a b c e = parts_eq a (c -ℤ b) (omega (arith, add_parts a b, sub_parts c b, ap up e, ap dn e))

-- over the first n segments
abbrev weighed : (weight : ℕ → ℤ) (feet : ℕ → ℕ) → ℕ → ℤ
weighed w f zero = pos 0
weighed w f (suc n) = weighed w f n +ℤ pos (f n) *ℤ w n

weighed-add : (w : ℕ → ℤ) (f g h : ℕ → ℕ) (n : ℕ) → ((k : ℕ) → k < n → f k + g k ≡ h k) → weighed w f n +ℤ weighed w g n ≡ weighed w h n
weighed-add w f g h zero e = refl
weighed-add w f g h (suc n) e =
    added (weighed w f n) (weighed w g n) (w n) (f n) (g n)
    ∙ ap₂ (λ (z : ℤ) (m : ℕ). z +ℤ pos m *ℤ w n) (weighed-add w f g h n (λ k l. e k (omega arith))) (e n (omega arith))

-- ---- up to a location x

module _ (t : Track) (rising : Rising t) (w : ℕ → ℤ) (x : ℕ) where
  abbrev start : ℕ → ℕ
  start k = (at t k).start

  -- by the scan, from 0 to x
  abbrev scanned : ℕ → ℤ
  scanned = weighed w (feet t 0 x)

  -- by whole segments
  abbrev total : ℕ → ℤ
  total = weighed w (all_feet t)

  -- by record k, as far as the start of record m
  abbrev reached : (m k : ℕ) → ℤ
  reached m k = total k +ℤ pos (min x (start m) - start k) *ℤ w k

  at_start : (m : ℕ) → reached m m ≡ total m
  at_start m =
      let e : min x (start m) - start m ≡ 0 = omega arith in
      ap (λ (f : ℕ). total m +ℤ pos f *ℤ w m) e ∙ none (total m) (w m)

  reaches : (m : ℕ) → m ≤ segments t → scanned m ≡ reached m (holding_to t.starts x m)
  unfolding feet all_feet holding_to
  reaches zero l = sym (at_start 0)
  reaches (suc m) l = by (dec_le (start (suc m)) x) (dec_le (start m) x) (reaches m (omega arith))
    where
      holds : ℕ
      holds = holding_to t.starts x m

      onward : (z : ℤ) (f : ℕ) → scanned m ≡ z → feet t 0 x m ≡ f → scanned (suc m) ≡ z +ℤ pos f *ℤ w m
      onward z f = ap₂ (λ (z : ℤ) (f : ℕ). z +ℤ pos f *ℤ w m)

      -- the start of record m lies at or before x
      passed : start m ≤ x → scanned m ≡ reached m holds → scanned m ≡ total m
      passed h r = r ∙ ap (reached m) (holding_here t.starts x m h) ∙ at_start m

      rise : start m ≤ start (suc m)
      rise = omega (arith, rising.starts m l, ap start (add-one m))

      by : Dec (start (suc m) ≤ x) → Dec (start m ≤ x) → scanned m ≡ reached m holds → scanned (suc m) ≡ reached (suc m) (holding_to t.starts x (suc m))
      by (yes a) b r =
          onward (total m) (all_feet t m) (passed (omega (arith, rise)) r) (omega (arith, rise, ap start (add-one m)))
          ∙ sym (ap (reached (suc m)) (holding_here t.starts x (suc m) a) ∙ at_start (suc m))
      by (no a) (yes b) r =
          onward (total m) (min x (start (suc m)) - start m) (passed b r) (omega (arith, ap start (add-one m)))
          ∙ sym (ap (reached (suc m)) (holding_before t.starts x m (omega arith) ∙ holding_here t.starts x m b))
      by (no a) (no b) r =
          onward (reached m holds) 0 r (omega (arith, ap start (add-one m)))
          ∙ none (reached m holds) (w m)
          ∙ ap (λ (y : ℕ). total holds +ℤ pos (y - start holds) *ℤ w holds) (omega (arith, rise))
          ∙ sym (ap (reached (suc m)) (holding_before t.starts x m (omega arith)))

-- ---- from rear to head

-- the weights' total at x, by its segment
abbrev to : Track → (ℕ → ℤ) → ℕ → ℤ
to t w x = let k = holding t x in weighed w (all_feet t) k +ℤ pos (feet_to t x k) *ℤ w k

module _ (t : Track) (rising : Rising t) (rear head : ℕ) (h : rear ≤ head) where
  -- what of a segment is at or before the head is before the rear or under the train
  parted : (from end last : ℕ) → min rear end ≤ last → last ≤ end → from ≤ end → (last - max rear from) + (min rear end - from) ≡ last - from
  parted from end last a b c = omega arith

  apart : (k : ℕ) → k < segments t → feet t rear head k + feet t 0 rear k ≡ feet t 0 head k
  unfolding feet
  apart k l =
      let next = (at t (k + 1)).start in
      let none : max 0 (at t k).start ≡ (at t k).start = omega arith in
      rw none (parted (at t k).start next (min head next) (omega arith) (omega arith) (rising.starts k l))

  gained : (w : ℕ → ℤ) → weighed w (feet t rear head) (segments t) +ℤ to t w rear ≡ to t w head
  gained w =
      ap (λ (z : ℤ). weighed w (feet t rear head) (segments t) +ℤ z) (sym (reaches t rising w rear (segments t) (le_refl _)))
      ∙ weighed-add w (feet t rear head) (feet t 0 rear) (feet t 0 head) (segments t) apart
      ∙ reaches t rising w head (segments t) (le_refl _)

-- ---- grade and curvature are such weights

module _ (t : Track) where
  abbrev grades : ℕ → ℤ
  grades k = (at t k).grade

  abbrev curvatures : ℕ → ℤ
  curvatures k = pos (at t k).curvature

  grade_feet_lem : (rear head n : ℕ) → grade_feet t rear head n ≡ weighed grades (feet t rear head) n
  unfolding grade_feet
  grade_feet_lem rear head zero = refl
  grade_feet_lem rear head (suc n) = ap (λ (z : ℤ). z +ℤ pos (feet t rear head n) *ℤ grades n) (grade_feet_lem rear head n)

  grade_total_lem : (n : ℕ) → grade_total t n ≡ weighed grades (all_feet t) n
  unfolding grade_total
  grade_total_lem zero = refl
  grade_total_lem (suc n) = ap (λ (z : ℤ). z +ℤ pos (all_feet t n) *ℤ grades n) (grade_total_lem n)

  grade_to_lem : (x : ℕ) → grade_to t x ≡ to t grades x
  unfolding grade_to
  grade_to_lem x = ap (λ (z : ℤ). z +ℤ pos (feet_to t x (holding t x)) *ℤ grades (holding t x)) (grade_total_lem (holding t x))

  curvature_feet_lem : (rear head n : ℕ) → pos (curvature_feet t rear head n) ≡ weighed curvatures (feet t rear head) n
  unfolding curvature_feet
  curvature_feet_lem rear head zero = refl
  curvature_feet_lem rear head (suc n) = ap (λ (z : ℤ). z +ℤ pos (feet t rear head n) *ℤ curvatures n) (curvature_feet_lem rear head n)

  curvature_total_lem : (n : ℕ) → pos (curvature_total t n) ≡ weighed curvatures (all_feet t) n
  unfolding curvature_total
  curvature_total_lem zero = refl
  curvature_total_lem (suc n) = ap (λ (z : ℤ). z +ℤ pos (all_feet t n) *ℤ curvatures n) (curvature_total_lem n)

  curvature_to_lem : (x : ℕ) → pos (curvature_to t x) ≡ to t curvatures x
  unfolding curvature_to
  curvature_to_lem x = ap (λ (z : ℤ). z +ℤ pos (feet_to t x (holding t x)) *ℤ curvatures (holding t x)) (curvature_total_lem (holding t x))

pub totalled : Totalled
unfolding Totalled
totalled t rear head rising h =
    let n = segments t in
    let g : grade_feet t rear head n +ℤ grade_to t rear ≡ grade_to t head =
    ap₂ ◌+ℤ◌ (grade_feet_lem t rear head n) (grade_to_lem t rear) ∙ gained t rising rear head h (grades t) ∙ sym (grade_to_lem t head) in
    let c : curvature_feet t rear head n + curvature_to t rear ≡ curvature_to t head =
    ap up (ap₂ ◌+ℤ◌ (curvature_feet_lem t rear head n) (curvature_to_lem t rear) ∙ gained t rising rear head h (curvatures t) ∙ sym (curvature_to_lem t head)) in
    record {
      grade = taken (grade_feet t rear head n) (grade_to t rear) (grade_to t head) g;
      curvature = omega arith;
      rises = omega arith;
    }
