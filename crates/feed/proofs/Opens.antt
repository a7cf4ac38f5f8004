-- The consist and its blocks: what is read of them opens a session, or is refused, as they do. Assumes nothing.
use Rattle.std.proofs.Common.{◌≡◌, ℕ, ◌+◌, ◌≤◌, List, ◌++◌, sym, ap, ◌∙◌, arith, length, take, Option, Some, Ok, Err, IfSome}
use mathlib.Core.Path.{ap₂}
use Rattle.std.proofs.lemmas.List.{take-append-le, take_all}
use lib.ListN.{length-append}
use lib.Seq.{length-take-le}
use borrow.Author.Tests.{ltb-false}
use borrow.Rule.Slice.PartMut.{put_mid}
use Rattle.refusal.specs.declared.Refusal.{Refusal}
use Rattle.refusal.specs.declared.Refusal.TheVariants.{WrongLength}
use Rattle.refusal.specs.Verdict.{Verdict, Accepted, Refused}
use Rattle.refusal.proofs.Order.{accepted}
use Rattle.consist.specs.Consist.{size, too_short, read_consist}
use Rattle.brake.specs.declared.Choice.{Choice}
use Rattle.session.specs.declared.Session.{Session}
use Rattle.session.specs.Session.{Answer, answer, answer_told, session_told, none_open}
use Rattle.session.specs.Open.{open_of}
use Rattle.session.proofs.Told.{session_one, answer_one}
use Rattle.opening.specs.Opening.{blocks_taken}
use Rattle.opening.specs.declared.Section.TheVariants.{Blocks}
use Rattle.feed.specs.Bytes.{Front}
use Rattle.feed.specs.Output.{consist_bytes, blocks_announced, blocks_bytes, after_consist, after_blocks, consist_verdict, answer_to, verdict_on, unless_accepted, behind_consist}
use Rattle.feed.specs.Opened.{SectionRead, Opens}
use Rattle.feed.proofs.Known.{if_some}
use Rattle.feed.proofs.Taken.{take-written}

-- what a call tells is the definition's answer
pub open_is : (x₀ x : Session) (v : Verdict) (s : List ℕ) (choice : Choice) → session_told x₀ ≡ session_told none_open → answer_told (answer x v) ≡ answer_told (open_of x₀ s choice)
    → open_of none_open s choice ≡ answer x v
open_is x₀ x v s choice none told = sym (answer_one _ _ told ∙ ap (λ y. open_of y s choice) (session_one _ _ none))

-- what is accepted is not too short
long_enough : (s : List ℕ) (choice : Choice) → (open_of none_open s choice).verdict ≡ Accepted → size ≤ length s
unfolding open_of read_consist too_short
long_enough s choice h = omega (arith, ltb-false, (accepted (too_short s) WrongLength _ h).0)

-- blocks that lie behind a consist
pub behind : (k m : ℕ) (buffer z ys : List ℕ) → length buffer ≡ size → m ≤ length ys → size + m ≤ length (put_mid size k (buffer ++ z) ys)
behind k m buffer z ys full fits =
    let long : size ≤ length (buffer ++ z) = simp length-append (omega arith) in
    simp length-append (omega (arith, length-take-le size (buffer ++ z) long))

module _ (choice : Choice) (xs : List ℕ) (left₁ : Option (List ℕ)) (n : ℕ) (buffer z : List ℕ) (first : Front xs left₁ size (take n buffer)) (within : n ≤ length buffer) where
  came : take n (buffer ++ z) ≡ consist_bytes xs
  came = take-append-le n buffer z within ∙ first.0

  -- the 16 bytes alone
  alone : (a : Answer) → open_of none_open (take n (buffer ++ z)) choice ≡ a → open_of none_open (consist_bytes xs) choice ≡ a
  alone a e = ap (λ s. open_of none_open s choice) (sym came) ∙ e

  pub alone_refused : (x : Session) (r : Refusal) → open_of none_open (take n (buffer ++ z)) choice ≡ answer x (Refused r) → Opens choice xs (Err r) left₁
  alone_refused x r e =
      let refused = alone (answer x (Refused r)) e in (
        ap (λ a. consist_verdict a.verdict (blocks_taken (blocks_announced xs) (blocks_bytes xs)) (answer_to choice xs).verdict) refused,
        first.1 ∙ ap Some (sym (ap (λ a. unless_accepted a.verdict (after_consist xs) (after_blocks xs)) refused)),
      )

  module _ (x : Session) (e : open_of none_open (take n (buffer ++ z)) choice ≡ answer x Accepted) where
    -- so the verdict is that on blocks and all
    verdict_is : verdict_on choice xs ≡ consist_verdict Accepted (blocks_taken (blocks_announced xs) (blocks_bytes xs)) (answer_to choice xs).verdict
    verdict_is = ap (λ a. consist_verdict a.verdict (blocks_taken (blocks_announced xs) (blocks_bytes xs)) (answer_to choice xs).verdict) (alone (answer x Accepted) e)

    behind_is : behind_consist choice xs ≡ after_blocks xs
    behind_is = ap (λ a. unless_accepted a.verdict (after_consist xs) (after_blocks xs)) (alone (answer x Accepted) e)

    pub blocks_refused : (r : Refusal) (s : List ℕ) (left₂ : Option (List ℕ)) → IfSome left₁ (λ ys. SectionRead Blocks ys (Err r) s left₂) → Opens choice xs (Err r) left₂
    blocks_refused r s left₂ second =
        let read = if_some left₁ (after_consist xs) (λ ys. SectionRead Blocks ys (Err r) s left₂) first.1 second in
        (verdict_is ∙ ap (λ b. consist_verdict Accepted b (answer_to choice xs).verdict) read.0 ∙ ap Refused (sym read.1), read.2 ∙ ap Some (sym behind_is))

    module _ (m : ℕ) (s : List ℕ) (left₂ : Option (List ℕ)) (full : length buffer ≡ size) (fits : m ≤ length s) (second : IfSome left₁ (λ ys. SectionRead Blocks ys (Ok m) s left₂)) where
      read : SectionRead Blocks (after_consist xs) (Ok m) s left₂
      read = if_some left₁ (after_consist xs) (λ ys. SectionRead Blocks ys (Ok m) s left₂) first.1 second

      front_is : take size (buffer ++ z) ≡ consist_bytes xs
      front_is =
          let long = long_enough (take n (buffer ++ z)) choice (ap (λ a. a.verdict) e) in
          take-append-le size buffer z (omega arith) ∙ take_all size buffer (omega arith) ∙ sym (take_all n buffer (omega (arith, ap length (take-append-le n buffer z within), length-take-le n buffer within))) ∙ first.0

      bytes_are : (k : ℕ) → take (size + m) (put_mid size k (buffer ++ z) s) ≡ consist_bytes xs ++ blocks_bytes xs
      bytes_are k = take-written size k m (buffer ++ z) s (simp length-append (omega arith)) fits ∙ ap₂ (λ a b. a ++ b) front_is read.1

      pub all_refused : (k : ℕ) (y : Session) (r : Refusal) → open_of none_open (take (size + m) (put_mid size k (buffer ++ z) s)) choice ≡ answer y (Refused r) → Opens choice xs (Err r) left₂
      all_refused k y r h =
          let whole = ap (λ l. open_of none_open l choice) (sym (bytes_are k)) ∙ h in
          (verdict_is ∙ ap₂ (λ b a. consist_verdict Accepted b a.verdict) read.0 whole, read.2 ∙ ap Some (sym behind_is))

      pub all_opened : (k : ℕ) (y : Session) → open_of none_open (take (size + m) (put_mid size k (buffer ++ z) s)) choice ≡ answer y Accepted → Opens choice xs (Ok y) left₂
      all_opened k y h =
          let whole = ap (λ l. open_of none_open l choice) (sym (bytes_are k)) ∙ h in
          (verdict_is ∙ ap₂ (λ b a. consist_verdict Accepted b a.verdict) read.0 whole, sym (ap (λ a. a.session) whole), read.2)
