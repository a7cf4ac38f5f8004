-- The code's own answers are a machine's, and it meets the contracts. Statements; proofs/CodeMeets.antt proves them.
-- The calls are run from the memory with which a run begins, in any environment that has their code, and nothing of the logic is left.
use Rattle.std.specs.Prelude.{◌≡◌, true, List, [], ◌∷◌, ◌++◌, map, ℕ, ◌+◌, ◌^◌, ◌<◌, length}
use Rattle.std.proofs.Math.Option.{some}
use mir.Syntax.{Ty, Symbol, w8, w32, ty_int}
use mir.Val.{Val, vnil, vcons, vunit, vint, vstruct}
use prog.Memory.{Memory, align, enc, load_m, store_m, alloc_m}
use prog.Machine.{done}
use prog.Routine.{Routine, Env, step}
use prog.Wired.{Wired}
use prog.Linked.{Entry, Has, Follows}
use prog.AdequacyRun.{start_mem}
use Rattle.refusal.specs.Verdict.{Verdict, Accepted, Refused}
use Rattle.refusal.proofs.Refusal.TheLaws as refusal_value
use Rattle.brake.specs.declared.Choice.{Choice}
use Rattle.brake.specs.declared.Choice.TheVariants.{FiveSeconds}
use Rattle.brake.specs.Rear.{choice_of}
use Rattle.brake.proofs.Choice.TheLaws as choice_value
use Rattle.session.specs.declared.Session.{Session}
use Rattle.session.specs.Session.{none_open}
use Rattle.sampling.specs.Laws.{Lent}
use Rattle.session.proofs.Session.TheLaws as session_value
use Rattle.session.proofs.none.Symbol as session_none
use Rattle.session.proofs.open.Symbol as session_open
use Rattle.sampling.proofs.sample.Symbol as session_sample
use Rattle.lent.specs.Lent.{Sampled}
use Rattle.buongilach.proofs.buongilach_open.Symbol as buongilach_open
use Rattle.buongilach.proofs.buongilach_open_with.Symbol as buongilach_open_with
use Rattle.buongilach.proofs.buongilach_sample.Symbol as buongilach_sample
use Rattle.demands.specs.Machine.{Slice, Lends, sampling, Machine, Reply, Unopened}
use Rattle.demands.specs.Library.{in_bytes, our_library}
use Rattle.demands.specs.Library as library
use Rattle.demands.specs.Program.{FitsWords, our_program}
use Rattle.demands.specs.Program as program
use Rattle.runs.specs.Runs.{Buffer, size, passed, Place, pointer}

-- ---- what a call leaves in memory

-- the machine loads these bytes from there
abbrev pub Loads : Memory → (block offset : ℕ) → List ℕ → Type 0
Loads σ block offset [] = Unit {0}
Loads σ block offset (x ∷ xs) = (load_m σ (ty_int w8) block offset ≡ some (vint w8 x)) × Loads σ block (offset + 1) xs

-- the buffers hold these bytes now, each as many as it had
abbrev pub Hold : Memory → List Buffer → List (List ℕ) → Type 0
Hold σ [] [] = Unit {0}
Hold σ [] (c ∷ cs) = ⊥
Hold σ (b ∷ bs) [] = ⊥
Hold σ (b ∷ bs) (c ∷ cs) = (length c ≡ size b) × Loads σ b.block b.offset c × Hold σ bs cs

-- the machine loads these sessions from the places
abbrev pub Stand : Memory → List Place → List Session → Type 0
Stand σ [] [] = Unit {0}
Stand σ [] (y ∷ ys) = ⊥
Stand σ (p ∷ ps) [] = ⊥
Stand σ (p ∷ ps) (y ∷ ys) = (load_m σ session_value.mir p.block p.offset ≡ some (session_value.lowered y)) × Stand σ ps ys

-- called on sessions, buffers and values behind them, the code ends, returns the answer's value, and leaves these sessions in the places and these bytes in the
-- buffers
abbrev pub Gives : Routine → Memory → List Place → List Buffer → List Val → Val → List Session → List (List ℕ) → Type 0
Gives code σ ps bs us answer sessions left =
    ∥ ((n : ℕ) × (σ' : Memory) × (step code n (map pointer ps ++ (map passed bs ++ us)) σ ≡ done (answer, σ')) × Stand σ' ps sessions × Hold σ' bs left) ∥₁

-- a buffer at the front of a block, and one that begins where another ends
abbrev pub front : ℕ → List ℕ → Buffer
front block bytes = record { block = block; offset = 0; bytes = bytes }

abbrev pub after : Buffer → List ℕ → Buffer
after b bytes = record { block = b.block; offset = b.offset + size b; bytes = bytes }

-- ---- the C library: the session's bytes in one block, and in the other what else is lent, end to end

-- an environment that has the code of its calls, and of all that they call
pub record HasLibrary (γ : Env) : Type 0 where
  pub opens : Wired γ buongilach_open.code
  pub opens_with : Wired γ buongilach_open_with.code
  pub samples : Wired γ buongilach_sample.code

module _ (γ : Env) where
  abbrev pub OpenGives : (session consist : List ℕ) → ℕ × List ℕ → Type 0
  OpenGives session consist y =
      Gives (γ buongilach_open.name) (start_mem session consist) [] (front 0 session ∷ front 1 consist ∷ []) [] (vint w8 y.0) [] (y.1 ∷ consist ∷ [])

  abbrev pub OpenWithGives : (session consist : List ℕ) → ℕ → ℕ × List ℕ → Type 0
  OpenWithGives session consist everlasting y =
      Gives (γ buongilach_open_with.name) (start_mem session consist) [] (front 0 session ∷ front 1 consist ∷ []) (vint w32 everlasting ∷ []) (vint w8 y.0)
      [] (y.1 ∷ consist ∷ [])

  abbrev pub SampleGives : List ℕ → Lent → Sampled → Type 0
  SampleGives session l y =
      let s = front 1 l.sample in
      let p = after s l.profile in
      let t = after p l.targets in
      Gives (γ buongilach_sample.name) (start_mem session (l.sample ++ (l.profile ++ (l.targets ++ l.out)))) []
      (front 0 session ∷ s ∷ p ∷ t ∷ after t l.out ∷ []) [] (vint w8 y.0) [] (y.1 ∷ l.sample ∷ l.profile ∷ l.targets ∷ y.2 ∷ [])

  -- whatever fits its words, the code gives what the machine does
  pub record IsLibrary (m : Machine (List ℕ) ℕ) : Type 0 where
    pub opens : (session consist : List ℕ) → Slice session → Slice consist → OpenGives session consist (m.opens session consist FiveSeconds)
    pub opens_with : (session consist : List ℕ) → Slice session → Slice consist → (everlasting : ℕ) → everlasting < 2 ^ 32
        → OpenWithGives session consist everlasting (m.opens session consist (choice_of everlasting))
    pub samples : (session : List ℕ) (l : Lent) → Slice session → Lends (sampling l) →
        let r = m.samples session l in
        SampleGives session l (r.told, r.state, r.out)

-- ---- the Rattle program: the output's bytes lie in one block, in another what else is lent, and in a third the session

-- behind a memory's blocks, one more for a value, whose cells it has, and which may be written over
abbrev pub beside : Memory → Ty → Val → Memory
beside σ τ v = σ ++ (some (align τ, enc τ v, true) ∷ [])

abbrev pub program_mem : (bytes others : List ℕ) → Session → Memory
program_mem bytes others x = beside (start_mem bytes others) session_value.mir (session_value.lowered x)

abbrev pub third : Session → Place
third x = record { block = 2; offset = 0; session = x }

-- a verdict's value: which of a Result's two variants it is, and what that one carries
abbrev pub verdict_value : Verdict → Val
verdict_value Accepted = vstruct (vcons (vint w8 0) (vcons vunit vnil))
verdict_value (Refused r) = vstruct (vcons (vint w8 1) (vcons (refusal_value.lowered r) vnil))

pub record HasProgram (γ : Env) : Type 0 where
  pub none : Wired γ session_none.code
  pub opens : Wired γ session_open.code
  pub samples : Wired γ session_sample.code

module _ (γ : Env) where
  abbrev pub OpeningGives : Session → List ℕ → Choice → Verdict × Session → Type 0
  OpeningGives x s choice y =
      Gives (γ session_open.name) (program_mem s [] x) (third x ∷ []) (front 0 s ∷ []) (choice_value.lowered choice ∷ []) (verdict_value y.0) (y.1 ∷ []) (s ∷ [])

  abbrev pub CallGives : Session → Lent → Reply Session Verdict → Type 0
  CallGives x l y =
      let s = front 1 l.sample in
      let p = after s l.profile in
      Gives (γ session_sample.name) (program_mem l.out (l.sample ++ (l.profile ++ l.targets)) x) (third x ∷ [])
      (s ∷ p ∷ after p l.targets ∷ front 0 l.out ∷ []) [] (verdict_value y.told) (y.state ∷ []) (l.sample ∷ l.profile ∷ l.targets ∷ y.out ∷ [])

  pub record IsProgram (m : Machine Session Verdict) : Type 0 where
    pub none : Gives (γ session_none.name) (start_mem [] []) [] [] [] (session_value.lowered m.none) [] []
    pub opens : (x : Session) (s : List ℕ) (choice : Choice) → FitsWords x → Slice s → OpeningGives x s choice (m.opens x s choice)
    pub samples : (x : Session) (l : Lent) → FitsWords x → Lends (sampling l) → CallGives x l (m.samples x l)

-- ---- there is such a machine, and each meets the contracts
pub record CodeMeets : Type 0 where
  -- what follows a look-up has that code, where the look-up finds each of these functions, and each that they call, with its own code; the machine on a program
  -- follows what the program has
  pub library_linked : (look : Symbol → Entry) (γ : Env) → Follows look γ → Has look buongilach_open.code → Has look buongilach_open_with.code
      → Has look buongilach_sample.code → HasLibrary γ
  pub program_linked : (look : Symbol → Entry) (γ : Env) → Follows look γ → Has look session_none.code → Has look session_open.code
      → Has look session_sample.code → HasProgram γ
  -- the memory that a program's call is run from is what a new block and a store of the session make of the one with which a run begins
  pub stored : (bytes others : List ℕ) (x : Session) → FitsWords x
      → store_m (alloc_m (start_mem bytes others) session_value.mir) session_value.mir 2 0 (session_value.lowered x) ≡ some (program_mem bytes others x)
  -- and wherever that code is
  pub is_library : (γ : Env) → HasLibrary γ → (z : List ℕ) → IsLibrary γ (our_library z)
  pub library_meets : (γ : Env) → HasLibrary γ → (m : Machine (List ℕ) ℕ) → Unopened in_bytes m.none → IsLibrary γ m → library.Meets m
  pub is_program : (γ : Env) → HasProgram γ → IsProgram γ (our_program none_open)
  pub program_meets : (γ : Env) → HasProgram γ → (m : Machine Session Verdict) → IsProgram γ m → program.Meets m
