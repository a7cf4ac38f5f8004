-- A sample's lines are the front of all that are to be printed. Assumes nothing.
use Rattle.std.proofs.Common.{◌≡◌, ℕ, ◌<◌, ◌≤◌, List, [], ◌++◌, length, take, drop, replicate, refl, sym, ap, subst, ◌∙◌, arith, append-nil, append_assoc, drop_of_length-le, Option, Some, None, IfSome}
use Rattle.std.proofs.lemmas.List.{length-take}
use Rattle.std.specs.Io.KnownBytes.{Appends}
use Rattle.std.proofs.KnownBytes.{Appends-nil, Appends-trans}
use Rattle.refusal.specs.Verdict.{Verdict}
use Rattle.sample.specs.Sample.{size}
use Rattle.decision.specs.Decision.{both_size}
use Rattle.session.specs.declared.Session.{Session}
use Rattle.session.specs.Session.{Answer, answer, call_told}
use Rattle.session.proofs.Told.{call_one}
use Rattle.sampling.specs.Sample.{sample_call}
use Rattle.line.specs.Line.{sample_text}
use Rattle.feed.specs.Bytes.{Front, Follows}
use Rattle.feed.specs.Output.{lines_from}
use Rattle.feed.proofs.Known.{if_some}
use Rattle.feed.proofs.Step.{called, lines_step, lines_none}

some_came : (xs came : List ℕ) → came ≡ take size xs → 0 < length came → 0 < length xs
some_came xs came e h = omega (arith, length-take size xs, ap length e)

module _ (p t : List ℕ) (x : Session) (xs : List ℕ) (old : Option (List ℕ)) where
  -- a sample that came, its call, and its lines
  pub turn_on : (y : Session) (v : Verdict) (came out text : List ℕ) (left new : Option (List ℕ)) → Front xs left size came → 0 < length came
      → call_told (answer y v, out) ≡ call_told (sample_call x came p t (replicate both_size 0)) → text ≡ sample_text v out → Appends old new text
      → Follows (lines_from p t) x xs old y left new
  turn_on y v came out text left new front some told shown written =
      let step = lines_step p t x xs (some_came xs came front.0 some) in
      let lines : Answer × List ℕ → List ℕ = λ c. sample_text c.0.verdict c.1 ++ lines_from p t c.0.session (drop size xs) in
      let same = ap (λ l. lines (called p t x l)) (sym front.0) ∙ ap lines (sym (call_one _ _ told)) in
      record { text = text; rest = drop size xs; is_left = front.1; written = written; front = step ∙ same ∙ ap (λ l. l ++ lines_from p t y (drop size xs)) (sym shown) }

  -- the last, which is short
  pub turn_last : (y : Session) (came : List ℕ) (left new : Option (List ℕ)) → Front xs left size came → length came < size → Follows (lines_from p t) x xs old y left new
      → Appends old new (lines_from p t x xs) × (left ≡ Some [])
  turn_last y came left new front short f =
      let one : length xs ≤ size = omega (arith, length-take size xs, ap length front.0) in
      let none : drop size xs ≡ [] = drop_of_length-le xs one in
      let end : Some (drop size xs) ≡ Some f.rest = sym front.1 ∙ f.is_left in
      let rest_none : length f.rest ≡ 0 = subst (λ o. IfSome o (λ l. length l ≡ 0)) end (ap length none) in
      (subst (Appends old new) (sym (f.front ∙ ap (λ l. f.text ++ l) (lines_none p t y f.rest rest_none) ∙ append-nil f.text)) f.written, front.1 ∙ ap Some none)

  -- none
  pub turn_none : (came : List ℕ) (left : Option (List ℕ)) → Front xs left size came → length came ≡ 0 → Appends old old (lines_from p t x xs) × (left ≡ Some [])
  turn_none came left front none =
      let end : length xs ≡ 0 = omega (arith, length-take size xs, ap length front.0) in
      (subst (Appends old old) (sym (lines_none p t x xs end)) (Appends-nil old), front.1 ∙ ap Some (drop_of_length-le xs {i = size} (omega arith)))

-- ---- turn after turn

module _ {A : Type 0} (lines : A → List ℕ → List ℕ) where
  pub follows_same : (x : A) (a old : Option (List ℕ)) → IfSome a (λ xs. Follows lines x xs old x a old)
  follows_same x None old = tt
  follows_same x (Some xs) old = record { text = []; rest = xs; is_left = refl; written = Appends-nil old; front = refl }

  pub follows_more : (x y z : A) (xs : List ℕ) (a b u v w : Option (List ℕ)) → Follows lines x xs u y a v → IfSome a (λ ys. Follows lines y ys v z b w) → Follows lines x xs u z b w
  follows_more x y z xs a b u v w f q =
      let h = if_some a f.rest (λ ys. Follows lines y ys v z b w) f.is_left q in
      record {
        text = f.text ++ h.text;
        rest = h.rest;
        is_left = h.is_left;
        written = Appends-trans u v w f.text h.text f.written h.written;
        front = f.front ∙ ap (λ l. f.text ++ l) h.front ∙ sym (append_assoc f.text h.text (lines z h.rest));
      }

  pub follows_end : (x y : A) (xs : List ℕ) (a b u v w : Option (List ℕ)) → Follows lines x xs u y a v → IfSome a (λ ys. Appends v w (lines y ys) × (b ≡ Some []))
      → Appends u w (lines x xs) × (b ≡ Some [])
  follows_end x y xs a b u v w f q =
      let end = if_some a f.rest (λ ys. Appends v w (lines y ys) × (b ≡ Some [])) f.is_left q in
      (subst (Appends u w) (sym f.front) (Appends-trans u v w f.text (lines y f.rest) f.written end.0), end.1)
