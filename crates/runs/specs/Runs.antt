-- The code's own answers. Statements; proofs/Runs.antt proves them.
-- A routine is a call's code, as the machine runs it: with some fuel, on machine values, from a memory, with no other thread beside it. An environment γ says
-- which routine each call is. Any will do that has the call's own code, and that of all it calls in turn (`Wired`): each program that links them is one.
use Rattle.std.specs.Prelude.{◌≡◌, List, [], ◌∷◌, ◌++◌, map, ℕ, ◌<◌, ◌^◌, length}
use base.Fraction.{full_share}
use Rattle.std.specs.Int.{w8, w32}
use mir.Val.{Val, vint, vptr}
use base.Logic.{sep}
use prog.Memory.{Memory}
use prog.Machine.{done}
use prog.Routine.{Routine, Env, step}
use prog.Wired.{Wired}
use prog.Wp.{run}
use contract.Adequate.{Satisfies}
use borrow.Fn.World.{World, Pr}
use Rattle.std.specs.Borrow.{RattleType, u8, unit}
use denote.Laws.{Is}
use denote.Slice.{slice_val}
use Rattle.std.specs.contracts.result.Result as result_type
use Rattle.bits.specs.Bytes.{Bytes}
use Rattle.refusal.specs.contracts.Refusal as refusal_type
use Rattle.brake.specs.declared.Choice.{Choice}
use Rattle.brake.specs.declared.Choice.TheVariants.{FiveSeconds}
use Rattle.brake.specs.Rear.{choice_of}
use Rattle.brake.specs.contracts.Choice as choice_type
use Rattle.session.specs.declared.Session.{Session}
use Rattle.session.specs.Session.{none_open}
use Rattle.session.specs.Open.{open_of}
use Rattle.sampling.specs.Sample.{sample_call}
use Rattle.session.specs.contracts.Session as session_type
use Rattle.session.proofs.Session.TheLaws as session_value
use Rattle.session.proofs.none.Symbol as session_none
use Rattle.session.proofs.open.Symbol as session_open
use Rattle.sampling.proofs.sample.Symbol as session_sample
use Rattle.lent.specs.Lent.{open_bytes, sample_bytes}
use Rattle.buongilach.proofs.buongilach_open.Symbol as buongilach_open
use Rattle.buongilach.proofs.buongilach_open_with.Symbol as buongilach_open_with
use Rattle.buongilach.proofs.buongilach_sample.Symbol as buongilach_sample
use Rattle.demands.specs.Program.{FitsWords}

-- bytes, and where in memory they lie; a slice of them is passed as a pointer and their number
pub record Buffer : Type 0 where
  pub block : ℕ
  pub offset : ℕ
  pub bytes : List ℕ

abbrev pub size : Buffer → ℕ
size b = length b.bytes

abbrev pub passed : Buffer → Val
passed b = slice_val (b.block, b.offset) (size b)

-- the same buffer with other bytes in it
abbrev pub with : Buffer → List ℕ → Buffer
with b bytes = record { block = b.block; offset = b.offset; bytes = bytes }

-- a session, and where in memory it lies; it is lent as a pointer
pub record Place : Type 0 where
  pub block : ℕ
  pub offset : ℕ
  pub session : Session

abbrev pub pointer : Place → Val
pointer p = vptr p.block p.offset

-- the same place with another session in it
abbrev pub holding : Place → Session → Place
holding p x = record { block = p.block; offset = p.offset; session = x }

-- the type of what an opening and a sample call return, a verdict
abbrev pub verdict_row : RattleType
verdict_row = result_type.the_row unit refusal_type.the_row

-- no slice is longer
abbrev pub Short : List Buffer → Type 0
Short [] = Unit {0}
Short (b ∷ bs) = (size b < 2 ^ 63) × Short bs

module _ (w : World) where
  -- the buffers lie in memory, apart from each other and from whatever else there is
  abbrev pub lie : List Buffer → Pr w → Pr w
  lie [] rest = rest
  lie (b ∷ bs) rest = sep w.𝓤 (run w.𝓤 w.𝓛.H full_share w8 b.block b.offset b.bytes) (lie bs rest)

  -- so do the sessions, each as its value
  abbrev pub stand : List Place → Pr w → Pr w
  stand [] rest = rest
  stand (p ∷ ps) rest = sep w.𝓤 (w.𝓛.H.at full_share session_value.mir p.block p.offset (session_value.lowered p.session)) (stand ps rest)

  -- Called on sessions, buffers and values behind them, from any memory in which these sessions and buffers lie, the code ends. The value that it returns is
  -- that of the answer, and now those sessions and buffers lie there, each buffer as long as it was; the rest of the memory is as it was.
  abbrev pub Answers : Routine → List Place → List Buffer → List Val → (R : RattleType) → R.Denot → List Place → List Buffer → Type 2
  Answers code places buffers us R answer places' buffers' =
      (σ : Memory) (rest : Pr w) → Satisfies w.𝓤 w.𝓛.H w.𝓜 σ (stand places (lie buffers rest))
      → ∥ ((n : ℕ) × (v : Val) × (σ' : Memory) × (step code n (map pointer places ++ (map passed buffers ++ us)) σ ≡ done (v, σ')) × Is R answer (v ∷ []) ×
      (map size buffers' ≡ map size buffers)
      × Satisfies w.𝓤 w.𝓛.H w.𝓜 σ' (stand places' (lie buffers' rest))) ∥₁

-- in every model of the machine's memory, and every environment that has the code
pub record Runs : Type 2 where
  -- what the code is given fits its words: only such a session has a value, or lies in memory, and only bytes do
  pub fits : (x : Session) (v : Val) → Is session_type.the_row x (v ∷ []) → FitsWords x
  pub stands : (w : World) (p : Place) (rest : Pr w) (σ : Memory) → Satisfies w.𝓤 w.𝓛.H w.𝓜 σ (stand w (p ∷ []) rest) → FitsWords p.session
  pub bytes : (w : World) (b : Buffer) (rest : Pr w) (σ : Memory) → Satisfies w.𝓤 w.𝓛.H w.𝓜 σ (lie w (b ∷ []) rest) → Bytes b.bytes
  pub none : (w : World) (γ : Env) → Wired γ session_none.code → Answers w (γ session_none.name) [] [] [] session_type.the_row none_open [] []
  -- u is the choice's value
  pub opens : (w : World) (γ : Env) → Wired γ session_open.code → (p : Place) (s : Buffer) → Short (s ∷ [])
      → (choice : Choice) (u : Val) → Is choice_type.the_row choice (u ∷ [])
      → let y = open_of p.session s.bytes choice in
      Answers w (γ session_open.name) (p ∷ []) (s ∷ []) (u ∷ []) verdict_row y.verdict (holding p y.session ∷ []) (s ∷ [])
  pub samples : (w : World) (γ : Env) → Wired γ session_sample.code → (x : Place) (s p t out : Buffer) → Short (s ∷ p ∷ t ∷ out ∷ [])
      → let y = sample_call x.session s.bytes p.bytes t.bytes out.bytes in
      Answers w (γ session_sample.name) (x ∷ []) (s ∷ p ∷ t ∷ out ∷ []) [] verdict_row y.0.verdict (holding x y.0.session ∷ []) (s ∷ p ∷ t ∷ with out y.1 ∷ [])
  pub buongilach_opens : (w : World) (γ : Env) → Wired γ buongilach_open.code → (session consist : Buffer) → Short (session ∷ consist ∷ [])
      → let y = open_bytes consist.bytes session.bytes FiveSeconds in
      Answers w (γ buongilach_open.name) [] (session ∷ consist ∷ []) [] u8 y.0 [] (with session y.1 ∷ consist ∷ [])
  pub buongilach_opens_with : (w : World) (γ : Env) → Wired γ buongilach_open_with.code → (session consist : Buffer) → Short (session ∷ consist ∷ []) → (everlasting : ℕ) → everlasting < 2 ^ 32
      → let y = open_bytes consist.bytes session.bytes (choice_of everlasting) in
      Answers w (γ buongilach_open_with.name) [] (session ∷ consist ∷ []) (vint w32 everlasting ∷ []) u8 y.0 [] (with session y.1 ∷ consist ∷ [])
  pub buongilach_samples : (w : World) (γ : Env) → Wired γ buongilach_sample.code → (session s p t decision : Buffer) → Short (session ∷ s ∷ p ∷ t ∷ decision ∷ [])
      → let y = sample_bytes session.bytes s.bytes p.bytes t.bytes decision.bytes in
      Answers w (γ buongilach_sample.name) [] (session ∷ s ∷ p ∷ t ∷ decision ∷ []) [] u8 y.0 [] (with session y.1 ∷ s ∷ p ∷ t ∷ with decision y.2 ∷ [])
