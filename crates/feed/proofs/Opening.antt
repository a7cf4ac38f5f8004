-- What an opening that was read leaves to print. Assumes nothing.
use Rattle.std.proofs.Common.{◌≡◌, ℕ, List, [], Some, sym, ap, ◌∙◌, take, Option, Ok, Err, IfSome}
use mathlib.Core.Path.{ap₂}
use Rattle.refusal.specs.declared.Refusal.{Refusal}
use Rattle.refusal.specs.Verdict.{Verdict, Accepted}
use Rattle.brake.specs.declared.Choice.{Choice}
use Rattle.session.specs.declared.Session.{Session}
use Rattle.opening.specs.Opening.{Part, Bytes, profile_taken, targets_taken}
use Rattle.opening.specs.declared.Section.TheVariants.{Profile, Targets}
use Rattle.line.specs.Line.{refusal_text}
use Rattle.feed.specs.Output.{after_blocks, profile_announced, profile_bytes, after_profile, targets_announced, targets_bytes, after_targets, printed, answer_to, verdict_on, lines_from, output_of, unless_accepted, unless_taken, behind_consist, unread}
use Rattle.feed.specs.Opened.{SectionRead, Opens, Opened}
use Rattle.feed.proofs.Known.{if_some}

module _ (choice : Choice) (xs : List ℕ) where
  abbrev lines : List ℕ
  lines = lines_from (profile_bytes xs) (targets_bytes xs) (answer_to choice xs).session (after_targets xs)

  abbrev profile : Part
  profile = profile_taken (profile_announced xs) (profile_bytes xs)

  abbrev targets : Part
  targets = targets_taken (targets_announced xs) (targets_bytes xs)

  -- what a verdict, and what is taken of both sections, leave unread
  abbrev rest_by : Verdict → Part → Part → List ℕ
  rest_by v p t = unless_accepted v (behind_consist choice xs) (unless_taken p (after_profile xs) (unless_taken t (after_targets xs) []))

  pub consist_refused : (r : Refusal) (left : Option (List ℕ)) → Opens choice xs (Err r) left → (output_of choice xs ≡ refusal_text r) × (left ≡ Some (unread choice xs))
  unfolding output_of unread
  consist_refused r left h = (ap (λ v. printed v profile targets lines) h.0, h.1 ∙ ap Some (sym (ap (λ v. rest_by v profile targets) h.0)))

  module _ (x : Session) (left₁ : Option (List ℕ)) (opened : Opens choice xs (Ok x) left₁) where
    pub profile_refused : (r : Refusal) (s : List ℕ) (left₂ : Option (List ℕ)) → IfSome left₁ (λ ys. SectionRead Profile ys (Err r) s left₂)
        → (output_of choice xs ≡ refusal_text r) × (left₂ ≡ Some (unread choice xs))
    unfolding output_of unread
    profile_refused r s left₂ second =
        let read = if_some left₁ (after_blocks xs) (λ ys. SectionRead Profile ys (Err r) s left₂) opened.2 second in
        (ap₂ (λ v p. printed v p targets lines) opened.0 read.0 ∙ ap refusal_text (sym read.1), read.2 ∙ ap Some (sym (ap₂ (λ v p. rest_by v p targets) opened.0 read.0)))

    module _ (n : ℕ) (p : List ℕ) (left₂ : Option (List ℕ)) (second : IfSome left₁ (λ ys. SectionRead Profile ys (Ok n) p left₂)) where
      profiled : SectionRead Profile (after_blocks xs) (Ok n) p left₂
      profiled = if_some left₁ (after_blocks xs) (λ ys. SectionRead Profile ys (Ok n) p left₂) opened.2 second

      first_two : (t : Part) → printed (verdict_on choice xs) profile t lines ≡ printed Accepted (Bytes n) t lines
      first_two t = ap₂ (λ v q. printed v q t lines) opened.0 profiled.0

      pub targets_refused : (r : Refusal) (s : List ℕ) (left₃ : Option (List ℕ)) → IfSome left₂ (λ ys. SectionRead Targets ys (Err r) s left₃)
          → (output_of choice xs ≡ refusal_text r) × (left₃ ≡ Some (unread choice xs))
      unfolding output_of unread
      targets_refused r s left₃ third =
          let read = if_some left₂ (after_profile xs) (λ ys. SectionRead Targets ys (Err r) s left₃) profiled.2 third in
          let rest = ap₂ (λ v q. rest_by v q targets) opened.0 profiled.0 ∙ ap (λ t. rest_by Accepted (Bytes n) t) read.0 in
          (first_two targets ∙ ap (λ t. printed Accepted (Bytes n) t lines) read.0 ∙ ap refusal_text (sym read.1), read.2 ∙ ap Some (sym rest))

      pub all_read : (m : ℕ) (t : List ℕ) (left₃ : Option (List ℕ)) → IfSome left₂ (λ ys. SectionRead Targets ys (Ok m) t left₃) → Opened choice xs (Ok (x, n, m)) p t left₃
      unfolding output_of unread
      all_read m t left₃ third =
          let read = if_some left₂ (after_profile xs) (λ ys. SectionRead Targets ys (Ok m) t left₃) profiled.2 third in
          let whole = first_two targets ∙ ap (λ q. printed Accepted (Bytes n) q lines) read.0 in
          let bytes = ap₂ (λ a b. lines_from a b (answer_to choice xs).session (after_targets xs)) (sym profiled.1) (sym read.1) in (
            whole ∙ bytes ∙ ap (λ y. lines_from (take n p) (take m t) y (after_targets xs)) (sym opened.1),
            ap₂ (λ v q. rest_by v q targets) opened.0 profiled.0 ∙ ap (λ q. rest_by Accepted (Bytes n) q) read.0,
            read.2,
          )
