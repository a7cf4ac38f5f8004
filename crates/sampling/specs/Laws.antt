-- What holds of every session: a refused call leaves it, an open one stays open, a penalty and an emergency stand.
-- Statements; proofs/Laws.antt proves them.
use Rattle.std.specs.Prelude.{◌≡◌, Bool, true, false, List, [], ◌∷◌, ℕ, ◌<◌}
use Rattle.refusal.specs.declared.Refusal.{Refusal}
use Rattle.refusal.specs.Verdict.{Accepted, Refused}
use Rattle.brake.specs.declared.Choice.{Choice}
use Rattle.session.specs.declared.Session.{Session}
use Rattle.session.specs.Session.{is_open}
use Rattle.session.specs.Open.{opened_with, open_of}
use Rattle.sampling.specs.Sample.{sample_call}

-- ---- "A refused call changes neither the session nor one byte of the output": of the session; crate demands has the whole sentence

unfoldable pub OpenUnchanged : Type 0
OpenUnchanged = (x : Session) (s : List ℕ) (choice : Choice) (r : Refusal) → (open_of x s choice).verdict ≡ Refused r → (open_of x s choice).session ≡ x

unfoldable pub SampleUnchanged : Type 0
SampleUnchanged =
    (x : Session) (s p t out : List ℕ) (r : Refusal) → (sample_call x s p t out).0.verdict ≡ Refused r → (sample_call x s p t out).0.session ≡ x

-- ---- every session that an accepted call hands back is open

unfoldable pub OpensOpen : Type 0
OpensOpen = (x : Session) (s : List ℕ) (choice : Choice) → (open_of x s choice).verdict ≡ Accepted → is_open (open_of x s choice).session ≡ true

unfoldable pub StaysOpen : Type 0
StaysOpen = (x : Session) (s p t out : List ℕ) → (sample_call x s p t out).0.verdict ≡ Accepted → is_open (sample_call x s p t out).0.session ≡ true

-- an open session that has taken no sample is as its opening left it: the brake of an opening, and no cause
unfoldable pub FreshOpening : Type 0
FreshOpening = (x : Session) → is_open x ≡ true → x.brake.sampled ≡ false → x ≡ opened_with x.consist x.brake.choice

-- ---- "Once commanded, a penalty stands until the session is opened anew."

-- what is lent to a call
pub record Lent : Type 0 where
  pub sample : List ℕ
  pub profile : List ℕ
  pub targets : List ℕ
  pub out : List ℕ

-- the session after a list of calls
unfoldable pub after_samples : Session → List Lent → Session
after_samples x [] = x
after_samples x (l ∷ ls) = after_samples (sample_call x l.sample l.profile l.targets l.out).0.session ls

-- the cause of a standing penalty, or, where the question is of emergency, of a standing emergency
abbrev pub cause_held : (emergency : Bool) → Session → ℕ
cause_held false x = x.cause
cause_held true x = x.emergency

-- and R-5: "Emergency is called .. and it stays called."
unfoldable pub CauseStands : Type 0
CauseStands = (e : Bool) (x : Session) (ls : List Lent) → 0 < cause_held e x → cause_held e (after_samples x ls) ≡ cause_held e x
