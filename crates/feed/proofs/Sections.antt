-- What is read of a section. Assumes nothing.
use Rattle.std.proofs.Common.{◌≡◌, ℕ, ◌+◌, ◌≤◌, List, Bool, true, false, ◌&&◌, cond, [], ◌∷◌, ◌++◌, refl, sym, ap, ◌∙◌, subst, arith, length, take, drop, Option, Some, None, Result, IfOk, IfSome}
use Rattle.std.specs.Option.{unwrap_or, ok_or}
use mathlib.Core.Path.{ap₂}
use Rattle.std.proofs.lemmas.List.{take-append-le}
use lib.Dec.{eqb}
use lib.Seq.{drop-drop, length-take-le}
use borrow.Author.Tests.{eqb-true}
use Rattle.refusal.specs.declared.Refusal.{Refusal}
use Rattle.opening.specs.declared.Section.{Section}
use Rattle.opening.specs.declared.Section.TheVariants.{Blocks, Profile, Targets}
use Rattle.opening.specs.Opening.{Part, Bytes, Broken, bytes_in, taken}
use Rattle.opening.specs.Section.{count_size_of, ahead_of, taken_of, is_right, refusal_of}
use Rattle.feed.specs.Bytes.{Front}
use Rattle.feed.specs.Opened.{announced_in, bytes_of, taken_in, after, SectionRead}
use Rattle.feed.proofs.Known.{if_some}

pub or_none : (part : Part) → unwrap_or part 0 ≡ bytes_in part
or_none (Bytes n) = refl
or_none Broken = refl

-- all that is taken came
pub taken_length : (section : Section) (part : Part) (came : List ℕ) (n : ℕ) → taken_of section part came ≡ Bytes n → n ≡ length came
unfolding taken
taken_length section Broken came n e = absurd (cc)
taken_length section (Bytes size) came n e = by (eqb (length came) size) (is_right section came) refl e
  where
    by : (a b : Bool) → eqb (length came) size ≡ a → cond (a && b) (Bytes size) Broken ≡ Bytes n → n ≡ length came
    by true true t f = let same : Bytes size ≡ Bytes n = f in ap bytes_in (sym same) ∙ sym (eqb-true (length came) size t)
    by true false t f = let none : Broken ≡ Bytes n = f in absurd (cc)
    by false b t f = let none : Broken ≡ Bytes n = f in absurd (cc)

-- no more is taken than came
pub taken_fits : (section : Section) (part : Part) (came : List ℕ) (r : Result ℕ Refusal) (e : Refusal) (most : ℕ) → length came ≤ most → r ≡ ok_or (taken_of section part came) e
    → IfOk r (λ n. n ≤ most)
taken_fits section part came r e most fits answer = by (taken_of section part came) refl answer
  where
    by : (t : Part) → taken_of section part came ≡ t → r ≡ ok_or t e → IfOk r (λ n. n ≤ most)
    by None is answer = subst (λ z. IfOk z (λ n. n ≤ most)) (sym answer) tt
    by (Some n) is answer = subst (λ z. IfOk z (λ k. k ≤ most)) (sym answer) (omega (arith, taken_length section part came n is))

module _ (section : Section) (xs : List ℕ) (left₁ left₂ : Option (List ℕ)) (count came : List ℕ) (part : Part) where
  read : (r : Result ℕ Refusal) (s : List ℕ) → Front xs left₁ (count_size_of section) count → part ≡ ahead_of section count → IfSome left₁ (λ ys. Front ys left₂ (bytes_in part) came)
      → r ≡ ok_or (taken_of section part came) (refusal_of section) → came ≡ take (length came) s → SectionRead section xs r s left₂
  read r s first announced second answer held =
      let rest = drop (count_size_of section) xs in
      let front = if_some left₁ rest (λ ys. Front ys left₂ (bytes_in part) came) first.1 second in
      let ahead : part ≡ announced_in section xs = announced ∙ ap (ahead_of section) first.0 in
      let bytes : came ≡ bytes_of section xs = front.0 ∙ ap (λ p. take (bytes_in p) rest) ahead in
      let left : left₂ ≡ Some (after section xs) = front.1 ∙ ap Some (drop-drop (bytes_in part) (count_size_of section) xs ∙ ap (λ p. drop (count_size_of section + bytes_in p) xs) ahead) in
      let same : taken_of section part came ≡ taken_in section xs = ap (λ p. taken_of section p came) ahead ∙ ap (taken_of section (announced_in section xs)) bytes in
      by r (taken_of section part came) refl answer same bytes left
    where
      by : (q : Result ℕ Refusal) (t : Part) → taken_of section part came ≡ t → q ≡ ok_or t (refusal_of section) → taken_of section part came ≡ taken_in section xs → came ≡ bytes_of section xs → left₂ ≡ Some (after section xs)
          → SectionRead section xs q s left₂
      by q None is answer same bytes left = subst (λ z. SectionRead section xs z s left₂) (sym answer) (sym same ∙ is, refl, left)
      by q (Some n) is answer same bytes left =
          let all = taken_length section part came n is in
          subst (λ z. SectionRead section xs z s left₂) (sym answer) (sym same ∙ is, ap (λ k. take k s) all ∙ sym held ∙ bytes, left)

-- the bytes that a count is read to, which hold it
abbrev zeros : List ℕ
zeros = 0 ∷ 0 ∷ []

count_fits : (section : Section) → length (take (count_size_of section) zeros) ≡ count_size_of section
count_fits Blocks = refl
count_fits Profile = refl
count_fits Targets = refl

-- the same of the bytes that the count and the section are read to
pub section_read : (section : Section) (xs : List ℕ) (left₁ left₂ : Option (List ℕ)) (k n m j : ℕ) (count came z₁ z₂ s₀ : List ℕ) (part got : Part) (refused : Refusal) (r : Result ℕ Refusal)
    → k ≡ count_size_of section → Front xs left₁ (length (take k zeros)) (take n count) → n ≤ length count → part ≡ ahead_of section (take n (count ++ z₁))
    → j ≡ bytes_in part → j ≤ length s₀ → IfSome left₁ (λ ys. Front ys left₂ (length (take j s₀)) (take m came)) → (m ≤ length came) × (m ≡ length (take m came))
    → got ≡ taken_of section part (take m (came ++ z₂)) → refused ≡ refusal_of section → r ≡ ok_or got refused → SectionRead section xs r (came ++ z₂) left₂
section_read section xs left₁ left₂ k n m j count came z₁ z₂ s₀ part got refused r width first within announced size fits second came_all judged why answer =
    let counted : length (take k zeros) ≡ count_size_of section = ap (λ i. length (take i zeros)) width ∙ count_fits section in
    let sized : length (take j s₀) ≡ bytes_in part = length-take-le j s₀ fits ∙ size in
    let front : take m (came ++ z₂) ≡ take m came = take-append-le m came z₂ came_all.0 in
    read section xs left₁ left₂ (take n count) (take m came) part r (came ++ z₂)
    (first.0 ∙ ap (λ i. take i xs) counted, first.1 ∙ ap (λ i. Some (drop i xs)) counted)
    (announced ∙ ap (ahead_of section) (take-append-le n count z₁ within))
    (subst (λ i. IfSome left₁ (λ ys. Front ys left₂ i (take m came))) sized second)
    (answer ∙ ap₂ ok_or (judged ∙ ap (taken_of section part) front) why)
    (sym front ∙ ap (λ i. take i (came ++ z₂)) came_all.1)
