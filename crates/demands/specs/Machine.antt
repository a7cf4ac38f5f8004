-- A machine: what a customer has who opens sessions and offers samples. The Rattle program is one (specs/Program.antt), the C library another
-- (specs/Library.antt); runs, and what a call is to do, are defined here for both.
use Rattle.std.specs.Prelude.{◌≡◌, Bool, true, false, List, [], ◌∷◌, ℕ, ◌^◌, ◌<◌, length, take, drop}
use Rattle.bits.specs.Bytes.{Bytes}
use Rattle.refusal.specs.Steps.{kept}
use Rattle.refusal.specs.Verdict.{Verdict, Accepted}
use Rattle.decision.specs.declared.Decision.{Decision}
use Rattle.decision.specs.Decision.{size, read_decision}
use Rattle.brake.specs.declared.Choice.{Choice}
use Rattle.session.specs.declared.Session.{Session}
use Rattle.session.specs.Session.{none_open}
use Rattle.session.specs.Open.{open_of}
use Rattle.sampling.specs.Sample.{sample_call}
use Rattle.sampling.specs.Laws.{Lent}

-- ---- the calls of a customer

-- an opening with a consist's bytes and a choice, or a sample call with what is lent to it
pub data Call : Type 0 where
  opening : List ℕ → Choice → Call
  sampling : Lent → Call

-- what can be lent: slices of bytes
abbrev pub Slice : List ℕ → Type 0
Slice s = Bytes s × (length s < 2 ^ 63)

abbrev pub Lends : Call → Type 0
Lends (opening s choice) = Slice s
Lends (sampling l) = Slice l.sample × Slice l.profile × Slice l.targets × Slice l.out

abbrev pub LendsEach : List Call → Type 0
LendsEach [] = Unit {0}
LendsEach (k ∷ ks) = Lends k × LendsEach ks

-- ---- a machine with states S, whose calls tell a T

-- what is told, the state from now on, and every byte of the output afterwards
pub record Reply (S T : Type 0) : Type 0 where
  pub told : T
  pub state : S
  pub out : List ℕ

-- the value before any opening, and the two calls; an opening is lent no output
pub record Machine (S T : Type 0) : Type 0 where
  pub none : S
  pub opens : S → List ℕ → Choice → T × S
  pub samples : S → Lent → Reply S T

module _ {S T : Type 0} (m : Machine S T) where
  abbrev pub call : S → Call → Reply S T
  call z (opening s choice) = let r = m.opens z s choice in record { told = r.0; state = r.1; out = [] }
  call z (sampling l) = m.samples z l

  -- what a run tells, call by call, and the state after it
  unfoldable pub replies : S → List Call → List (T × List ℕ)
  replies z [] = []
  replies z (k ∷ ks) = let r = call z k in (r.told, r.out) ∷ replies r.state ks

  unfoldable pub after : S → List Call → S
  after z [] = z
  after z (k ∷ ks) = after (call z k).state ks

-- ---- what the calls are to do

-- the definitions of the two calls, as a machine whose states are sessions and that tells verdicts
abbrev pub ours : Machine Session Verdict
ours = record {
  none = none_open;
  opens = λ x s choice. let a = open_of x s choice in (a.verdict, a.session);
  samples = λ x l. let a = sample_call x l.sample l.profile l.targets l.out in record { told = a.0.verdict; state = a.0.session; out = a.1 };
}

-- how states hold a session, and how a verdict is told
pub record Holding (S T : Type 0) : Type 1 where
  -- what the words that hold a state can hold
  pub Fits : S → Type 0
  -- the session that it is
  pub session : S → Session
  -- the state with this session in it
  pub put : S → Session → S
  pub tell : Verdict → T

-- the record of a sample call's output: the decision's, or, of emergency, the one that follows it
abbrev pub record_of : (emergency : Bool) → List ℕ → List ℕ
record_of false out = take size out
record_of true out = take size (drop size out)

module _ {S T : Type 0} (h : Holding S T) where
  -- a state that fits its words, and is this session
  abbrev pub Holds : S → Session → Type 0
  Holds z x = h.Fits z × (h.session z ≡ x)

  -- before any opening
  abbrev pub Unopened : S → Type 0
  Unopened z = Holds z none_open

  -- a reply of the definition, told and held so; "if refused, an earlier session stays as it was"
  abbrev pub carry : S → Reply Session Verdict → Reply S T
  carry z r = record { told = h.tell r.told; state = kept r.told (h.put z r.state) z; out = r.out }

  -- a machine does what is defined, for every input that fits its words
  abbrev pub Does : Machine S T → Type 0
  Does m = (z : S) (x : Session) → Holds z x → (k : Call) → Lends k → call m z k ≡ carry z (call ours x k)

  abbrev pub Accepts : Reply S T → Type 0
  Accepts r = r.told ≡ h.tell Accepted

  -- an accepted sample call, whose record, the first or that of emergency, reads as the decision d
  pub record Decides (emergency : Bool) (r : Reply S T) (d : Decision) : Type 0 where
    pub accepted : Accepts r
    pub reads : read_decision (record_of emergency r.out) ≡ (Accepted, d)
