-- A session is read where it is open.
use mathlib.Core.Path.{◌≡◌, sym, ap, ◌∙◌}
use mathlib.Core.Bool.{Bool, true, false, not}
use mathlib.Core.List.{List, [], ◌∷◌}
use Prim.Native.Nat.{ℕ}
use borrow.Author.Tests.{not-true, not-false}
use Rattle.refusal.specs.Lowest.{lowest}
use Rattle.refusal.specs.declared.Refusal.TheVariants.{NoSession}
use Rattle.refusal.specs.Verdict.{Accepted}
use Rattle.refusal.proofs.Steps.{on_unless, off_unless}
use Rattle.consist.specs.declared.Consist.{Consist}
use Rattle.session.specs.Session.{is_open}
use Rattle.held.specs.Held.{of_fields, fields_at, answer, refused_with, read_told, read_front}
use Rattle.held.proofs.read_front.Goals as goal

module _ (s : List ℕ) (c : Consist) where
  by_open : (b : Bool) → is_open (of_fields (fields_at s) c) ≡ b → read_front s c ≡ answer (lowest ((not b, NoSession) ∷ [])) (of_fields (fields_at s) c)
  unfolding read_front
  by_open b h = ap (λ (o : Bool). answer (lowest ((not o, NoSession) ∷ [])) (of_fields (fields_at s) c)) h

  closed : is_open (of_fields (fields_at s) c) ≡ false → read_front s c ≡ refused_with NoSession
  unfolding lowest
  closed h = by_open false h

  opened : is_open (of_fields (fields_at s) c) ≡ true → read_front s c ≡ answer Accepted (of_fields (fields_at s) c)
  unfolding lowest
  opened h = by_open true h

pub returns-in_default : goal.returns-in_default
returns-in_default c =
    let shut = not-true _ (off_unless _ (sym c.in_default.is ∙ c.unless.ensures)) in
    sym (ap read_told (closed _ _ (ap is_open (sym c.of_bytes-x.ensures) ∙ sym c.is_open.ensures ∙ shut)))

pub returns : goal.returns
returns c =
    let open_session = not-false _ (on_unless _ (sym c.in-Some.is ∙ c.unless.ensures)) in
    ap read_told (ap (answer Accepted) c.of_bytes-x.ensures ∙ sym (opened _ _ (ap is_open (sym c.of_bytes-x.ensures) ∙ sym c.is_open.ensures ∙ open_session)))
