-- Samples one by one. Assumes nothing.
use Rattle.std.proofs.Common.{◌≡◌, ℕ, zero, suc, ◌<◌, ◌+◌, ◌*◌, ◌/◌, List, [], ◌∷◌, ◌++◌, length, take, drop, replicate, refl, sym, ap, ◌∙◌, arith, drop_of_length-le}
use lib.ListN.{length-drop}
use lib.Seq.{drop-drop}
use Rattle.bits.specs.Tables.{up_to, part}
use Rattle.sample.specs.Sample.{size}
use Rattle.decision.specs.Decision.{both_size}
use Rattle.session.specs.declared.Session.{Session}
use Rattle.session.specs.Session.{Answer}
use Rattle.sampling.specs.Sample.{sample_call}
use Rattle.line.specs.Line.{sample_text}
use Rattle.feed.specs.Output.{samples_of, lines_of, lines_from}

up_to_first : {A : Type 0} (n : ℕ) (f : ℕ → A) → up_to (suc n) f ≡ f 0 ∷ up_to n (λ i. f (suc i))
up_to_first zero f = refl
up_to_first (suc n) f = ap (λ l. l ++ f (suc n) ∷ []) (up_to_first n f)

up_to_same : {A : Type 0} (n : ℕ) (f g : ℕ → A) → ((i : ℕ) → f i ≡ g i) → up_to n f ≡ up_to n g
up_to_same zero f g same = refl
up_to_same (suc n) f g same = ap (λ l. l ++ f n ∷ []) (up_to_same n f g same) ∙ ap (λ x. up_to n g ++ x ∷ []) (same n)

part_next : (s : List ℕ) (i : ℕ) → part size s (suc i) ≡ part size (drop size s) i
part_next s i = ap (take size) (ap (λ n. drop n s) {x = size * suc i} {y = size + size * i} (omega arith) ∙ sym (drop-drop (size * i) size s))

samples_step : (s : List ℕ) → 0 < length s → samples_of s ≡ take size s ∷ samples_of (drop size s)
samples_step s h =
    let n = (length (drop size s) + 19) / size in
    let count : (length s + 19) / size ≡ suc n = omega (arith, length-drop size s) in
    ap (λ m. up_to m (part size s)) count ∙ up_to_first n (part size s) ∙ ap (λ l. take size s ∷ l) (up_to_same n (λ i. part size s (suc i)) (part size (drop size s)) (part_next s))

module _ (p t : List ℕ) where
  -- the call for a sample
  abbrev pub called : Session → List ℕ → Answer × List ℕ
  called x s = sample_call x s p t (replicate both_size 0)

  pub lines_step : (x : Session) (s : List ℕ) → 0 < length s
      → lines_from p t x s ≡ sample_text (called x (take size s)).0.verdict (called x (take size s)).1 ++ lines_from p t (called x (take size s)).0.session (drop size s)
  unfolding lines_of
  lines_step x s h = ap (lines_of x p t) (samples_step s h)

  pub lines_none : (x : Session) (s : List ℕ) → length s ≡ 0 → lines_from p t x s ≡ []
  unfolding lines_of
  lines_none x s e = ap (lines_from p t x) {x = s} {y = []} (drop_of_length-le s {i = 0} (omega (arith, e)))
