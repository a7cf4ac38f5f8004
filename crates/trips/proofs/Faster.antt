-- Rounding up keeps the order of speeds, and accepted bytes that agree outside the speed's four are samples that agree in everything except speed. Assumes nothing.
use mathlib.Core.Path.{◌≡◌, refl, sym, ap, ◌∙◌}
use mathlib.Core.Bool.{Bool, true, false, ◌&&◌, ◌||◌, true≢false, false≢true}
use mathlib.Core.List.{List, [], ◌∷◌, ◌++◌}
use Prim.Native.Nat.{ℕ, ◌*◌, ◌≤◌}
use native.Mathlib.Nat.{zero-mul}
use native.Mathlib.Omega.{arith}
use lib.Dec.{ltb, eqb}
use lib.ListN.{length, get_or, take, drop, length-drop, take-append-drop}
use lib.Seq.{drop-drop}
use lib.Ieee.{nan, inf, fin, up, down, binary32, of_bits, below, level, lt, eq, le, is_nan}
use lib.Ieee.Fits.{down_pos}
use borrow.Author.Tests.{ltb-true, ltb-false, eqb-true, not-false}
use Rattle.bits.specs.Fields.{total}
use Rattle.bits.specs.Bytes.{Bytes, eights, fields_in}
use Rattle.bits.proofs.Bytes.{bytes_drop}
use Rattle.bits.proofs.Parts.{fields_append}
use Rattle.bits.proofs.Ranges.{and-true_left, neither}
use Rattle.hundredths.specs.declared.Rounding.TheVariants.{Up, Down}
use Rattle.hundredths.specs.Reading.{most_speed, is_bad, hundredths_of}
use Rattle.hundredths.proofs.Rounded.{rounded_mono}
use Rattle.refusal.specs.Verdict.{Accepted}
use Rattle.record.specs.Record.{wrong_length}
use Rattle.sample.specs.declared.RawSample.{RawSample}
use Rattle.sample.specs.Sample.{size, lead_widths, reading_widths, widths, rear_of, raw_in, read_sample, rear_in_hundredths}
use Rattle.sample.proofs.Answers.{LaidOut, read_inv, each_good}
use Rattle.trips.specs.Trips.{Agreement, InHundredths, ApartInSpeed, SpeedsKeepOrder}

-- ---- floats that are not below zero, by their sizes over one denominator

-- a minus that is not below zero is zero
unsigned : (s : Bool) (a : ℕ) → s && ltb 0 a ≡ false → s ≡ true → a ≡ 0
unsigned true a h e = omega (arith, ltb-false 0 a h)
unsigned false a h e = absurd (false≢true e)

either : {A : Type 0} (a b : Bool) → a || b ≡ true → (a ≡ true → A) → (b ≡ true → A) → A
either true b h f g = f refl
either false b h f g = g h

equal_most : (a b : ℕ) (c : Bool) → eqb a b && c ≡ true → a ≤ b
equal_most a b c h = omega (arith, eqb-true a b (and-true_left (eqb a b) c h))

not_above : (s t : Bool) (a b : ℕ) → (s ≡ true → a ≡ 0) → below s a t b || level s a t b ≡ true → a ≤ b
not_above true t a b z h = omega (arith, z refl)
not_above false true a b z h = equal_most a b _ h
not_above false false a b z h = either (ltb a b) (level false a false b) h (λ l. omega (arith, ltb-true a b l)) (equal_most a b _)

pub speeds_keep_order : SpeedsKeepOrder
unfolding SpeedsKeepOrder is_bad is_nan le lt eq hundredths_of
speeds_keep_order nan y bx by h = absurd (true≢false bx)
speeds_keep_order (inf s) y bx by h = absurd (true≢false bx)
speeds_keep_order (fin s m e) nan bx by h = absurd (true≢false by)
speeds_keep_order (fin s m e) (inf t) bx by h = absurd (true≢false by)
speeds_keep_order (fin s m e) (fin t n d) bx by h =
    let zero_x : s ≡ true → m * up e ≡ 0 = unsigned s (m * up e) (neither (s && ltb 0 (m * up e)) _ bx).0 in
    let most : m * up e * down d ≤ n * up d * down e =
    not_above s t (m * up e * down d) (n * up d * down e) (λ minus. ap (λ (k : ℕ). k * down d) (zero_x minus) ∙ zero-mul (down d)) h in
    rounded_mono Up (100 * (m * up e)) (down e) (100 * (n * up d)) (down d) (down_pos e) (down_pos d) (omega (arith, most))

-- ---- the fields of bytes in three parts, the speed's among them

abbrev in_parts : List ℕ → List ℕ → List ℕ → List ℕ
in_parts lead speed rest = fields_in lead_widths lead ++ (fields_in (32 ∷ []) speed ++ fields_in (32 ∷ 32 ∷ []) rest)

-- time, rear present, head, front, rear
abbrev aside : List ℕ → List ℕ
aside fs = get_or fs 1 0 ∷ get_or fs 2 0 ∷ get_or fs 4 0 ∷ get_or fs 6 0 ∷ get_or fs 7 0 ∷ []

module _ (s : List ℕ) (b : Bytes s) (l : length s ≡ 20) where
  parts : fields_in widths s ≡ in_parts (take 8 s) (take 4 (drop 8 s)) (drop 12 s)
  parts =
      let long : length (drop 8 s) ≡ 12 = simp length-drop (omega (arith, l)) in
      let longer : length (drop 12 s) ≡ 8 = simp length-drop (omega (arith, l)) in
      let readings : drop 8 s ≡ take 4 (drop 8 s) ++ drop 12 s =
      sym (take-append-drop 4 (drop 8 s)) ∙ ap (λ (t : List ℕ). take 4 (drop 8 s) ++ t) (drop-drop 4 8 s) in
      ap (fields_in widths) (sym (take-append-drop 8 s))
      ∙ fields_append lead_widths reading_widths (take 8 s) (drop 8 s) (bytes_drop 8 s b) (λ i. total (eights (sym long i)))
      ∙ ap (λ (t : List ℕ). fields_in lead_widths (take 8 s) ++ t)
      (ap (fields_in reading_widths) readings ∙ fields_append (32 ∷ []) (32 ∷ 32 ∷ []) (take 4 (drop 8 s)) (drop 12 s) (bytes_drop 12 s b) (λ i. total (eights (sym longer i))))

long : (s : List ℕ) → wrong_length size s ≡ false → length s ≡ 20
unfolding wrong_length
long s h = eqb-true (length s) 20 (not-false _ h)

-- bytes that the reader accepts
module _ (s : List ℕ) (h : (read_sample s).0 ≡ Accepted) where
  abbrev raw : RawSample
  raw = (read_sample s).1

  laid : LaidOut s raw
  laid = (read_inv s raw (λ i. (h i, raw))).0

  right : is_bad most_speed (raw_in s).speed ≡ false
  right = sym (ap (λ (r : RawSample). is_bad most_speed r.speed) laid.raw_is) ∙ (each_good raw (read_inv s raw (λ i. (h i, raw))).1).0

-- samples that the reader accepts and that agree so are a faster one and a slower one
abbrev pub MeansFaster : Agreement → Type 0
MeansFaster Agree = (s s' : List ℕ) → Bytes s → Bytes s' → (read_sample s).0 ≡ Accepted → (read_sample s').0 ≡ Accepted → Agree s s' → InHundredths s s'

pub hundredths_mean_faster : MeansFaster InHundredths
hundredths_mean_faster s s' b b' h h' faster = faster

pub bytes_mean_faster : MeansFaster ApartInSpeed
unfolding SpeedsKeepOrder raw_in
bytes_mean_faster s s' b b' h h' apart =
    let mid = take 4 (drop 8 s) in
    let same : aside (fields_in widths s) ≡ aside (fields_in widths s') =
    ap aside (parts s b (long s (laid s h).length))
    ∙ (λ i. aside (in_parts (apart.before i) mid (apart.behind i)))
    ∙ sym (ap aside (parts s' b' (long s' (laid s' h').length))) in
    record {
      time = ap (λ (g : List ℕ). get_or g 0 0) same;
      head = ap (λ (g : List ℕ). get_or g 2 0) same;
      front = ap (λ (g : List ℕ). hundredths_of Down (of_bits binary32 (get_or g 3 0))) same;
      rear = ap (λ (g : List ℕ). rear_in_hundredths (rear_of (eqb (get_or g 1 0) 0) (get_or g 4 0))) same;
      speed = speeds_keep_order (raw_in s').speed (raw_in s).speed (right s' h') (right s h) apart.speed;
    }
