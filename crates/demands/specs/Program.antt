-- The Rattle program as a machine: session::none, and session::open and sampling::sample, which are lent the session. Definitions only;
-- specs/Demands.antt says what is demanded of it.
use Rattle.std.specs.Prelude.{◌≡◌, List, [], ◌∷◌, ℕ, ◌^◌, ◌≤◌, ◌<◌, length}
use borrow.Fn.World.{ArgsD}
use contract.Lifetimes.{Lfts}
use denote.Triple.Clauses.{AtExit}
use Rattle.bits.specs.Fields.{Fit}
use Rattle.refusal.specs.Verdict.{Verdict}
use Rattle.blocks.specs.declared.Blocks.{Blocks}
use Rattle.blocks.specs.Blocks.{most}
use Rattle.consist.specs.Consist.{fields_of}
use Rattle.brake.specs.Rear.{heard_number}
use Rattle.brake.specs.Brake.{brake_told}
use Rattle.learn.specs.Stage.{learner_told}
use Rattle.session.specs.declared.Session.{Session}
use Rattle.sampling.specs.Laws.{Lent}
use Rattle.session.proofs.none.Reads as none_reads
use Rattle.session.specs.contracts.open as open_call
use Rattle.session.proofs.open.Reads as open_reads
use Rattle.sampling.specs.contracts.sample as sample_call
use Rattle.sampling.proofs.sample.Reads as sample_reads
use Rattle.demands.specs.Machine.{Slice, Lends, sampling, Machine, ours, Holding}

-- ---- a state is the session itself, and a verdict is told as it is

-- each number of a list fits a word of so many bits
abbrev pub Words : ℕ → List ℕ → Type 0
Words w [] = Unit {0}
Words w (n ∷ ns) = (n < 2 ^ w) × Words w ns

-- what a consist's blocks are held in
pub record FitsBlocks (b : Blocks) : Type 0 where
  pub count : b.count < 2 ^ 8
  pub lengths_places : length b.lengths ≡ most
  pub lengths : Words 16 b.lengths
  pub weights_places : length b.weights ≡ most
  pub weights : Words 16 b.weights

-- each field fits its word: of the consist, of the brake and of the learner in the order of `fields_of`, `brake_told` and `learner_told`, the time at which the rear was
-- last present, the two causes, and the consist's blocks
abbrev pub FitsWords : Session → Type 0
FitsWords x =
    Fit (16 ∷ 16 ∷ 16 ∷ 16 ∷ 32 ∷ 32 ∷ 16 ∷ 16 ∷ 16 ∷ []) (fields_of x.consist)
    × Fit (8 ∷ 16 ∷ 16 ∷ 16 ∷ 16 ∷ 16 ∷ 16 ∷ 16 ∷ 32 ∷ 1 ∷ 1 ∷ 33 ∷ []) (brake_told x.brake)
    × (heard_number x.brake.heard ≤ 2 ^ 32)
    × Fit (8 ∷ 32 ∷ 16 ∷ 16 ∷ 16 ∷ 16 ∷ 32 ∷ 32 ∷ 32 ∷ 32 ∷ []) (learner_told x.learner)
    × (x.cause < 2 ^ 8)
    × (x.emergency < 2 ^ 8)
    × FitsBlocks x.consist.blocks

abbrev pub by_value : Holding Session Verdict
by_value = record { Fits = FitsWords; session = λ x. x; put = λ x y. y; tell = λ v. v }

-- ---- the contracts, as the check reads them from the source

-- what is given to a sample call
abbrev pub lent_to : (κs : Lfts 5) → ArgsD sample_call.signature κs → Lent
lent_to κs = λ (_, (s, (p, (t, (out, _))))). record { sample = s.now; profile = p.now; targets = t.now; out = out.now }

-- for every input that fits its words, each contract holds of what the machine gives, where the session at exit, and for a sample call the
-- output, are what it hands back
pub record Meets (m : Machine Session Verdict) : Type 0 where
  pub none : (κs : Lfts 0) (a : _) (x : _) → none_reads.Post κs a m.none x
  pub opens : (κs : Lfts 2) (a : ArgsD open_call.signature κs) (x : AtExit open_call.ended κs) → FitsWords a.0.now → Slice a.1.0.now →
      let r = m.opens a.0.now a.1.0.now a.1.1.0 in
      let (session, _) = x in
      session.now ≡ r.1 → open_reads.Post κs a r.0 x
  pub samples : (κs : Lfts 5) (a : ArgsD sample_call.signature κs) (x : AtExit sample_call.ended κs) → FitsWords a.0.now → Lends (sampling (lent_to κs a)) →
      let r = m.samples a.0.now (lent_to κs a) in
      let (session, (_, (_, (_, (out, _))))) = x in
      session.now ≡ r.state → out.now ≡ r.out → sample_reads.Post κs a r.told x

-- one that meets them, from this value on
abbrev pub our_program : Session → Machine Session Verdict
our_program x = record { none = x; opens = ours.opens; samples = ours.samples }
