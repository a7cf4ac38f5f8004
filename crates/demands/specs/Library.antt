-- The C library as a machine: buongilach_open, buongilach_open_with and buongilach_sample, with the session in lent bytes; specs/Demands.antt says what is demanded of it.
-- Beside that, damage to these bytes is seen: a statement, which proofs/Contracts.antt proves.
use Rattle.std.specs.Prelude.{◌≡◌, true, List, ◌++◌, ℕ, ◌^◌, ◌≤◌, ◌<◌, length, drop}
use borrow.Fn.World.{ArgsD}
use contract.Lifetimes.{Lfts}
use denote.Triple.Clauses.{AtExit}
use Rattle.seal.specs.Apart.{apart}
use Rattle.refusal.specs.Number.{number_of_verdict}
use Rattle.brake.specs.declared.Choice.TheVariants.{FiveSeconds}
use Rattle.brake.specs.Rear.{choice_of}
use Rattle.session.specs.declared.Session.{Session}
use Rattle.session.specs.Session.{is_open}
use Rattle.sampling.specs.Laws.{Lent}
use Rattle.held.specs.Held.{most, record_at, bytes_of, read_session}
use Rattle.lent.specs.Lent.{buffer_of, open_bytes, sample_bytes}
use Rattle.buongilach.specs.contracts.buongilach_open as open_call
use Rattle.buongilach.proofs.buongilach_open.Reads as open_reads
use Rattle.buongilach.specs.contracts.buongilach_open_with as open_with_call
use Rattle.buongilach.proofs.buongilach_open_with.Reads as open_with_reads
use Rattle.buongilach.specs.contracts.buongilach_sample as sample_call
use Rattle.buongilach.proofs.buongilach_sample.Reads as sample_reads
use Rattle.demands.specs.Machine.{Slice, Lends, sampling, Machine, call, Holding, Unopened}

-- ---- a state is bytes that begin with the session's buffer, and a verdict is told as its number

-- as many bytes as the buffer has, or more, and a call leaves those past it as they were; fewer are never an open session, and stay none
abbrev pub in_bytes : Holding (List ℕ) ℕ
in_bytes = record {
  Fits = λ z. Slice z × (most ≤ length z);
  session = λ z. (read_session (record_at z)).1;
  put = λ z x. buffer_of x ++ drop most z;
  tell = number_of_verdict;
}

-- ---- the contracts, as the check reads them from the source

-- what is given to a sample call, beside the session's bytes
abbrev pub lent_to : (κs : Lfts 5) → ArgsD sample_call.signature κs → Lent
lent_to κs = λ (_, (s, (p, (t, (out, _))))). record { sample = s.now; profile = p.now; targets = t.now; out = out.now }

-- for every input that fits its words, however short, each contract holds of the number that the machine tells, where the lent bytes at exit are
-- what it leaves. A customer begins with bytes that he likes, an open session's apart.
pub record Meets (m : Machine (List ℕ) ℕ) : Type 0 where
  pub none : Unopened in_bytes m.none
  pub opens : (κs : Lfts 2) (a : ArgsD open_call.signature κs) (x : AtExit open_call.ended κs) → Slice a.0.now → Slice a.1.0.now →
      let r = m.opens a.0.now a.1.0.now FiveSeconds in
      x.0.now ≡ r.1 → open_reads.Post κs a r.0 x
  pub opens_with : (κs : Lfts 2) (a : ArgsD open_with_call.signature κs) (x : AtExit open_with_call.ended κs) →
      let everlasting : ℕ = a.1.1.0 in
      Slice a.0.now → Slice a.1.0.now → everlasting < 2 ^ 32 →
      let r = m.opens a.0.now a.1.0.now (choice_of everlasting) in
      x.0.now ≡ r.1 → open_with_reads.Post κs a r.0 x
  pub samples : (κs : Lfts 5) (a : ArgsD sample_call.signature κs) (x : AtExit sample_call.ended κs) → Slice a.0.now → Lends (sampling (lent_to κs a)) →
      let r = m.samples a.0.now (lent_to κs a) in
      let (session, (_, (_, (_, (out, _))))) = x in
      session.now ≡ r.state → out.now ≡ r.out → sample_reads.Post κs a r.told x

-- one that meets them, from these bytes on
abbrev pub our_library : List ℕ → Machine (List ℕ) ℕ
our_library z = record {
  none = z;
  opens = λ session s choice. open_bytes s session choice;
  samples = λ session l.
      let r = sample_bytes session l.sample l.profile l.targets l.out in
      record { told = r.0; state = r.1; out = r.2 };
}

-- ---- a record that was damaged

-- in one place or in two, wherever these are, in the check word too: bytes that differ so from an open session's record are no open session's
abbrev pub Damaged : List ℕ → List ℕ → Type 0
Damaged s t = (1 ≤ apart s t) × (apart s t ≤ 2)

-- a sample call with such a record at the start of the session's bytes tells 1, and leaves these and the decision's as they were
unfoldable pub DamageSeen : Type 0
DamageSeen =
    (m : Machine (List ℕ) ℕ) → Meets m → (x : Session) (session : List ℕ) (l : Lent) → is_open x ≡ true → Slice session → Lends (sampling l)
    → Damaged (bytes_of x) session → call m session (sampling l) ≡ record { told = 1; state = session; out = l.out }
