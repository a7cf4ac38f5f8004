-- The code's own answers are a machine's, and it meets the contracts. Assumes nothing.
use mathlib.Core.Path.{◌≡◌, refl, sym, ◌∙◌, ap, ap₂, subst}
use mathlib.Core.Logic.{∥∥₁_prop, ∥∥₁_elim, ∥∥₁_map}
use mathlib.Core.List.{List, [], ◌∷◌, ◌++◌, map}
use mathlib.Core.Option.{some}
use Prim.Native.Nat.{ℕ, ◌^◌, ◌<◌}
use lib.Dec.{T}
use lib.ListN.{get_or}
use base.Fraction.{full_share}
use mir.Syntax.{w8, w32}
use mir.Val.{Val, vunit, vint, has_ty, WT}
use base.Logic.{ent, sep, emp, via, emp∗, comm∗, mono_r, fst∗}
use prog.Memory.{Memory, store_m, alloc_m}
use prog.Machine.{done}
use prog.Routine.{Routine, Env, step}
use prog.Linked.{Has-Wired}
use prog.Wp.{run}
use prog.AdequacyRun.{start_mem}
use types.Kit.{raw, ◌⊛◌, ◌$◌, ◌∵◌, !, qed, by, move, use1, split, frame}
use contract.Monad.{fact}
use contract.Adequate.{Satisfies, sat_weaken, sat_fact, start_Satisfies}
use borrow.Fn.World.{Pr, w₀}
use denote.RattleType.{RattleType}
use denote.Laws.{Is, Tells}
use denote.Steps.{only}
use denote.Builtin.{u8}
use Rattle.brake.specs.declared.Choice.{Choice}
use Rattle.brake.specs.declared.Choice.TheVariants.{FiveSeconds}
use Rattle.brake.specs.Rear.{choice_of}
use Rattle.brake.proofs.Choice.TheLaws as choice_value
use Rattle.session.specs.declared.Session.{Session}
use Rattle.session.specs.Session.{Answer, Told, none_open, answer, answer_told}
use Rattle.session.specs.Open.{open_of}
use Rattle.sampling.specs.Sample.{sample_call}
use Rattle.sampling.specs.Laws.{Lent}
use Rattle.session.specs.contracts.Session as session_type
use Rattle.session.proofs.Session.TheLaws as session_value
use Rattle.session.proofs.none.Symbol as session_none
use Rattle.session.proofs.open.Symbol as session_open
use Rattle.sampling.proofs.sample.Symbol as session_sample
use Rattle.lent.specs.Lent.{Sampled, open_bytes, sample_bytes}
use Rattle.buongilach.proofs.buongilach_open.Symbol as buongilach_open
use Rattle.buongilach.proofs.buongilach_open_with.Symbol as buongilach_open_with
use Rattle.buongilach.proofs.buongilach_sample.Symbol as buongilach_sample
use Rattle.demands.specs.Machine.{Slice, Lends, sampling}
use Rattle.demands.specs.Library as library
use Rattle.demands.specs.Program.{FitsWords}
use Rattle.demands.specs.Program as program
use Rattle.runs.specs.Runs.{Buffer, size, passed, with, Place, pointer, holding, verdict_row, lie, stand, Answers}
use Rattle.runs.specs.CodeMeets.{Hold, Stand, Gives, front, after, OpenGives, OpenWithGives, SampleGives, program_mem, third, verdict_value, OpeningGives, CallGives, HasLibrary, HasProgram, CodeMeets}
use Rattle.runs.proofs.SessionFits.{choice_is, session_is}
use Rattle.runs.proofs.SessionValue.{number, session_in, session_read, verdict_is, answer_in, answer_read}
use Rattle.runs.proofs.Runs.{runs}
use Rattle.runs.proofs.Loaded.{Given, gives_one, holds_of, stands_of, bytes_alone, nothing, apart, all_fit, fit_both}
use Rattle.runs.proofs.Beside.{stored_is, beside_lies}

-- from the closed model's memory at the start
module _ (code : Routine) (ps ps' : List Place) (bs after : List Buffer) (us : List Val) (R : RattleType) (r : R.Denot) (answer : Val) (ys : List Session) (cs : List (List ℕ)) (σ : Memory) where
  open w₀ use {𝓤, 𝓛, 𝓜}
  open 𝓛 use {H}

  gives : Answers w₀ code ps bs us R r ps' after → Tells R (λ x us. Is R r us) (λ _. answer ∷ [])
      → (map size after ≡ map size bs → (σ' : Memory) → ent 𝓤 (sep 𝓤 (𝓜.mem σ') (stand w₀ ps' (lie w₀ after (emp 𝓤)))) (fact 𝓤 (Stand σ' ps ys × Hold σ' bs cs)))
      → Satisfies 𝓤 H 𝓜 σ (stand w₀ ps (lie w₀ bs (emp 𝓤))) → Gives code σ ps bs us answer ys cs
  gives answers tells holds s =
      ∥∥₁_elim (answers σ (emp 𝓤) s) ∥∥₁_prop (λ c.
      ∥∥₁_map (sat_fact 𝓤 H 𝓜 c.2 (stand w₀ ps' (lie w₀ after (emp 𝓤))) (Stand c.2 ps ys × Hold c.2 bs cs) (holds c.5 c.2) c.6) (λ h.
      (c.0, c.2, subst (λ (v : Val). step code c.0 (map pointer ps ++ (map passed bs ++ us)) σ ≡ done (v, c.2)) (ap only (tells r (c.1 ∷ []) c.4)) c.3, h.0, h.1)))

open w₀ use {𝓤, 𝓛, 𝓜}
open 𝓛 use {H}

abbrev alone : (P : Pr w₀) → ent 𝓤 P (sep 𝓤 P (emp 𝓤))
alone P = via 𝓤 (sep 𝓤 (emp 𝓤) P) (emp∗ 𝓤 P) (comm∗ 𝓤 (emp 𝓤) P)

abbrev lying : Buffer → Pr w₀
lying b = run 𝓤 H full_share w8 b.block b.offset b.bytes

-- the session's bytes in one block and the consist's in the other: at the start, and once these have been left
module _ (γ : Env) (has : HasLibrary γ) (session consist : List ℕ) (fs : Slice session) (fc : Slice consist) where
  abbrev z : Buffer
  z = front 0 session

  abbrev c : Buffer
  c = front 1 consist

  abbrev two : List Buffer
  two = z ∷ c ∷ []

  at_start : Satisfies 𝓤 H 𝓜 (start_mem session consist) (lie w₀ two (emp 𝓤))
  at_start =
      sat_weaken 𝓤 H 𝓜 (start_mem session consist) (mono_r 𝓤 (lying z) (alone (lying c)))
      (start_Satisfies 𝓤 H 𝓜 session consist (all_fit session fs.0) (all_fit consist fc.0))

  left_there : (left : List ℕ) → map size (with z left ∷ c ∷ []) ≡ map size two → (σ : Memory)
      → ent 𝓤 (sep 𝓤 (𝓜.mem σ) (lie w₀ (with z left ∷ c ∷ []) (emp 𝓤))) (fact 𝓤 (Stand σ [] [] × Hold σ two (left ∷ consist ∷ [])))
  left_there left e σ =
      bytes_alone w₀ σ two (left ∷ consist ∷ []) (lie w₀ (with z left ∷ c ∷ []) (emp 𝓤)) (holds_of w₀ σ z left (c ∷ []) (consist ∷ []) (lie w₀ (c ∷ []) (emp 𝓤)) (ap (λ (l : List ℕ). get_or l 0 0) e)
      (holds_of w₀ σ c consist [] [] (emp 𝓤) refl (nothing w₀ σ (emp 𝓤))))

  open_gives : OpenGives γ session consist (open_bytes consist session FiveSeconds)
  open_gives =
      let y : ℕ × List ℕ = open_bytes consist session FiveSeconds in
      gives (γ buongilach_open.name) [] [] two (with z y.1 ∷ c ∷ []) [] u8 y.0 (vint w8 y.0) [] (y.1 ∷ consist ∷ []) (start_mem session consist)
      (runs.buongilach_opens w₀ γ has.opens z c (fs.1, (fc.1, tt))) (λ _ us h. h.0) (left_there y.1) at_start

  open_with_gives : (everlasting : ℕ) → everlasting < 2 ^ 32 → OpenWithGives γ session consist everlasting (open_bytes consist session (choice_of everlasting))
  open_with_gives everlasting fits =
      let y : ℕ × List ℕ = open_bytes consist session (choice_of everlasting) in
      gives (γ buongilach_open_with.name) [] [] two (with z y.1 ∷ c ∷ []) (vint w32 everlasting ∷ []) u8 y.0 (vint w8 y.0) [] (y.1 ∷ consist ∷ [])
      (start_mem session consist)
      (runs.buongilach_opens_with w₀ γ has.opens_with z c (fs.1, (fc.1, tt)) everlasting fits) (λ _ us h. h.0) (left_there y.1) at_start

sample_gives : (γ : Env) → HasLibrary γ → (session : List ℕ) (l : Lent) → Slice session → Lends (sampling l) → SampleGives γ session l
    (sample_bytes session l.sample l.profile l.targets l.out)
sample_gives γ has session l fits f =
    let z : Buffer = front 0 session in
    let s : Buffer = front 1 l.sample in
    let p : Buffer = after s l.profile in
    let t : Buffer = after p l.targets in
    let d : Buffer = after t l.out in
    let y : Sampled = sample_bytes session l.sample l.profile l.targets l.out in
    let others : List ℕ = l.sample ++ (l.profile ++ (l.targets ++ l.out)) in
    let σ₀ : Memory = start_mem session others in
    gives (γ buongilach_sample.name) [] [] (z ∷ s ∷ p ∷ t ∷ d ∷ []) (with z y.1 ∷ s ∷ p ∷ t ∷ with d y.2 ∷ []) [] u8 y.0 (vint w8 y.0) []
    (y.1 ∷ l.sample ∷ l.profile ∷ l.targets ∷ y.2 ∷ []) σ₀
    (runs.buongilach_samples w₀ γ has.samples z s p t d (fits.1, (f.0.1, (f.1.1, (f.2.1, (f.3.1, tt)))))) (λ _ us h. h.0)
    (λ e σ. bytes_alone w₀ σ (z ∷ s ∷ p ∷ t ∷ d ∷ []) (y.1 ∷ l.sample ∷ l.profile ∷ l.targets ∷ y.2 ∷ []) (lie w₀ (with z y.1 ∷ s ∷ p ∷ t ∷ with d y.2 ∷ []) (emp 𝓤))
    (holds_of w₀ σ z y.1 (s ∷ p ∷ t ∷ d ∷ []) (l.sample ∷ l.profile ∷ l.targets ∷ y.2 ∷ []) (lie w₀ (s ∷ p ∷ t ∷ with d y.2 ∷ []) (emp 𝓤))
    (ap (λ (k : List ℕ). get_or k 0 0) e)
    (holds_of w₀ σ s l.sample (p ∷ t ∷ d ∷ []) (l.profile ∷ l.targets ∷ y.2 ∷ []) (lie w₀ (p ∷ t ∷ with d y.2 ∷ []) (emp 𝓤)) refl
    (holds_of w₀ σ p l.profile (t ∷ d ∷ []) (l.targets ∷ y.2 ∷ []) (lie w₀ (t ∷ with d y.2 ∷ []) (emp 𝓤)) refl
    (holds_of w₀ σ t l.targets (d ∷ []) (y.2 ∷ []) (lie w₀ (with d y.2 ∷ []) (emp 𝓤)) refl
    (holds_of w₀ σ d y.2 [] [] (emp 𝓤) (ap (λ (k : List ℕ). get_or k 4 0) e) (nothing w₀ σ (emp 𝓤))))))))
    (sat_weaken 𝓤 H 𝓜 σ₀ (mono_r 𝓤 (lying z)
    (via 𝓤 (sep 𝓤 (lying s) (lying (after s (l.profile ++ (l.targets ++ l.out))))) (apart w₀ σ₀ l.sample (l.profile ++ (l.targets ++ l.out)) 1 0)
    (mono_r 𝓤 (lying s)
    (via 𝓤 (sep 𝓤 (lying p) (lying (after p (l.targets ++ l.out)))) (apart w₀ σ₀ l.profile (l.targets ++ l.out) 1 p.offset) (mono_r 𝓤 (lying p)
    (via 𝓤 (sep 𝓤 (lying t) (lying d)) (apart w₀ σ₀ l.targets l.out 1 t.offset) (mono_r 𝓤 (lying t) (alone (lying d)))))))))
    (start_Satisfies 𝓤 H 𝓜 session others (all_fit session fits.0)
    (fit_both l.sample _ (all_fit l.sample f.0.0)
    (fit_both l.profile _ (all_fit l.profile f.1.0) (fit_both l.targets _ (all_fit l.targets f.2.0) (all_fit l.out f.3.0))))))

-- a number and the session's bytes, of what a call on these two buffers gives
opened_in : Given → ℕ × List ℕ
opened_in k = (number k.0, get_or k.1.1 0 [])

open_only : (session consist : List ℕ) (code : Routine) (us : List Val) (y z : ℕ × List ℕ) →
    let gives : ℕ × List ℕ → Type 0 = λ k.
    Gives code (start_mem session consist) [] (front 0 session ∷ front 1 consist ∷ []) us (vint w8 k.0) [] (k.1 ∷ consist ∷ []) in
    gives y → gives z → y ≡ z
unfolding number opened_in
open_only session consist code us y z g h =
    ap opened_in (gives_one code (start_mem session consist) []
    (front 0 session ∷ front 1 consist ∷ []) us (vint w8 y.0) (vint w8 z.0) [] [] (y.1 ∷ consist ∷ []) (z.1 ∷ consist ∷ []) g h)

sample_only : (γ : Env) (session : List ℕ) (l : Lent) (y z : Sampled) → SampleGives γ session l y → SampleGives γ session l z → y ≡ z
unfolding number
sample_only γ session l y z g h =
    let s : Buffer = front 1 l.sample in
    let p : Buffer = after s l.profile in
    let t : Buffer = after p l.targets in
    let left : Sampled → List (List ℕ) = λ k. k.1 ∷ l.sample ∷ l.profile ∷ l.targets ∷ k.2 ∷ [] in
    ap (λ (k : Given). (number k.0, get_or k.1.1 0 [], get_or k.1.1 4 []))
    (gives_one (γ buongilach_sample.name) (start_mem session (l.sample ++ (l.profile ++ (l.targets ++ l.out)))) []
    (front 0 session ∷ s ∷ p ∷ t ∷ after t l.out ∷ []) [] (vint w8 y.0) (vint w8 z.0) [] [] (left y) (left z) g h)

-- ---- the Rattle program's calls
none_gives : (γ : Env) → HasProgram γ → Gives (γ session_none.name) (start_mem [] []) [] [] [] (session_value.lowered none_open) [] []
none_gives γ has = gives (γ session_none.name) [] [] [] [] [] session_type.the_row none_open (session_value.lowered none_open) [] [] (start_mem [] [])
    (runs.none w₀ γ has.none)
    (λ _. (session_value.lowers).val_is none_open)
    (λ e σ. bytes_alone w₀ σ [] [] (emp 𝓤) (nothing w₀ σ (emp 𝓤)))
    (sat_weaken 𝓤 H 𝓜 (start_mem [] []) (fst∗ 𝓤 (emp 𝓤) (emp 𝓤)) (start_Satisfies 𝓤 H 𝓜 [] [] tt tt))

session_typed : (x : Session) → FitsWords x → T (has_ty session_value.mir (session_value.lowered x)) × WT (session_value.lowered x)
session_typed x fits = (((session_value.the_row_laws).lawful 𝓛).typed x (session_value.lowered x ∷ []) (session_is x fits)).0

session_stored : (bytes others : List ℕ) (x : Session) → FitsWords x
    → store_m (alloc_m (start_mem bytes others) session_value.mir) session_value.mir 2 0 (session_value.lowered x) ≡ some (program_mem bytes others x)
unfolding start_mem
session_stored bytes others x fits = stored_is (start_mem bytes others) session_value.mir (session_value.lowered x) (session_typed x fits).0 refl

-- the session stands beside what lies in the two blocks
program_lies : (bytes others : List ℕ) (x : Session) → FitsWords x → (P : Pr w₀) → Satisfies 𝓤 H 𝓜 (start_mem bytes others) P
    → Satisfies 𝓤 H 𝓜 (program_mem bytes others x) (stand w₀ (third x ∷ []) P)
unfolding start_mem
program_lies bytes others x fits P s =
    let typed = session_typed x fits in
    beside_lies w₀ (start_mem bytes others) session_value.mir (session_value.lowered x) typed.0 typed.1 refl P s

opening_gives : (γ : Env) → HasProgram γ → (x : Session) (s : List ℕ) (choice : Choice) → FitsWords x → Slice s
    → let y = open_of x s choice in
    OpeningGives γ x s choice (y.verdict, y.session)
opening_gives γ has x s choice fits f =
    let b : Buffer = front 0 s in
    let p : Place = third x in
    let y : Answer = open_of x s choice in
    gives (γ session_open.name) (p ∷ []) (holding p y.session ∷ []) (b ∷ []) (b ∷ []) (choice_value.lowered choice ∷ []) verdict_row y.verdict
    (verdict_value y.verdict) (y.session ∷ []) (s ∷ []) (program_mem s [] x)
    (runs.opens w₀ γ has.opens p b (f.1, tt) choice (choice_value.lowered choice) (choice_is choice))
    (λ _. verdict_is y.verdict)
    (λ e σ. stands_of w₀ σ p y.session (b ∷ []) (s ∷ []) (lie w₀ (b ∷ []) (emp 𝓤)) (holds_of w₀ σ b s [] [] (emp 𝓤) refl (nothing w₀ σ (emp 𝓤))))
    (program_lies s [] x fits (lie w₀ (b ∷ []) (emp 𝓤)) (start_Satisfies 𝓤 H 𝓜 s [] (all_fit s f.0) tt))

call_gives : (γ : Env) → HasProgram γ → (x : Session) (l : Lent) → FitsWords x → Lends (sampling l)
    → let y = sample_call x l.sample l.profile l.targets l.out in
    CallGives γ x l (record { told = y.0.verdict; state = y.0.session; out = y.1 })
call_gives γ has x l fits f =
    let s : Buffer = front 1 l.sample in
    let p : Buffer = after s l.profile in
    let t : Buffer = after p l.targets in
    let o : Buffer = front 0 l.out in
    let z : Place = third x in
    let y : Answer × List ℕ = sample_call x l.sample l.profile l.targets l.out in
    let others : List ℕ = l.sample ++ (l.profile ++ l.targets) in
    let σ₀ : Memory = start_mem l.out others in
    gives (γ session_sample.name) (z ∷ []) (holding z y.0.session ∷ []) (s ∷ p ∷ t ∷ o ∷ []) (s ∷ p ∷ t ∷ with o y.1 ∷ []) [] verdict_row y.0.verdict
    (verdict_value y.0.verdict) (y.0.session ∷ [])
    (l.sample ∷ l.profile ∷ l.targets ∷ y.1 ∷ []) (program_mem l.out others x)
    (runs.samples w₀ γ has.samples z s p t o (f.0.1, (f.1.1, (f.2.1, (f.3.1, tt)))))
    (λ _. verdict_is y.0.verdict)
    (λ e σ. stands_of w₀ σ z y.0.session (s ∷ p ∷ t ∷ o ∷ []) (l.sample ∷ l.profile ∷ l.targets ∷ y.1 ∷ []) (lie w₀ (s ∷ p ∷ t ∷ with o y.1 ∷ []) (emp 𝓤))
    (holds_of w₀ σ s l.sample (p ∷ t ∷ o ∷ []) (l.profile ∷ l.targets ∷ y.1 ∷ []) (lie w₀ (p ∷ t ∷ with o y.1 ∷ []) (emp 𝓤)) refl
    (holds_of w₀ σ p l.profile (t ∷ o ∷ []) (l.targets ∷ y.1 ∷ []) (lie w₀ (t ∷ with o y.1 ∷ []) (emp 𝓤)) refl
    (holds_of w₀ σ t l.targets (o ∷ []) (y.1 ∷ []) (lie w₀ (with o y.1 ∷ []) (emp 𝓤)) refl
    (holds_of w₀ σ o y.1 [] [] (emp 𝓤) (ap (λ (k : List ℕ). get_or k 3 0) e) (nothing w₀ σ (emp 𝓤)))))))
    (program_lies l.out others x fits (lie w₀ (s ∷ p ∷ t ∷ o ∷ []) (emp 𝓤)) (sat_weaken 𝓤 H 𝓜 σ₀
    (qed 𝓛 (raw (lying o) ∷ raw (lying (front 1 others)) ∷ []) ∵ move ! (1 ∷ []) $
    use1 𝓛 (raw (lying s) ⊛ raw (lying (after s (l.profile ++ l.targets)))) (apart w₀ σ₀ l.sample (l.profile ++ l.targets) 1 0) $ split ! $ frame ! $
    use1 𝓛 (raw (lying p) ⊛ raw (lying t)) (apart w₀ σ₀ l.profile l.targets 1 p.offset) $ split ! $ frame ! $ frame ! $ by ! (alone (lying o)))
    (start_Satisfies 𝓤 H 𝓜 l.out others (all_fit l.out f.3.0)
    (fit_both l.sample _ (all_fit l.sample f.0.0) (fit_both l.profile _ (all_fit l.profile f.1.0) (all_fit l.targets f.2.0))))))

-- what is told of the answer in what a call gives
abbrev given_answer : Given → ℕ × Told
given_answer k = answer_in (k.0, get_or k.1.0 0 vunit)

pub code_meets : CodeMeets
code_meets = record {
  library_linked = λ look γ f o w s. record {
    opens = Has-Wired look γ f buongilach_open.code o;
    opens_with = Has-Wired look γ f buongilach_open_with.code w;
    samples = Has-Wired look γ f buongilach_sample.code s;
  };
  program_linked = λ look γ f n o s. record {
    none = Has-Wired look γ f session_none.code n;
    opens = Has-Wired look γ f session_open.code o;
    samples = Has-Wired look γ f session_sample.code s;
  };
  stored = session_stored;
  is_library = λ γ has z. record { opens = open_gives γ has; opens_with = open_with_gives γ has; samples = sample_gives γ has };
  library_meets = λ γ has m unopened is. record {
    none = unopened;
    opens = λ κs a x fs fc e.
        ap (λ (u : List ℕ). ((m.opens a.0.now a.1.0.now FiveSeconds).0, u)) e
        ∙ open_only a.0.now a.1.0.now (γ buongilach_open.name) [] _ _ (is.opens _ _ fs fc) (open_gives γ has a.0.now a.1.0.now fs fc);
    opens_with = λ κs a x fs fc fits e.
        let n : ℕ = a.1.1.0 in
        ap (λ (u : List ℕ). ((m.opens a.0.now a.1.0.now (choice_of n)).0, u)) e
        ∙ open_only a.0.now a.1.0.now (γ buongilach_open_with.name) (vint w32 n ∷ []) _ _ (is.opens_with _ _ fs fc n fits)
        (open_with_gives γ has a.0.now a.1.0.now fs fc n fits);
    samples = λ κs a x fs f d e.
        let l = library.lent_to κs a in
        let r = m.samples a.0.now l in
        ap₂ (λ (u v : List ℕ). (r.told, u, v)) d e ∙ sample_only γ a.0.now l (r.told, r.state, r.out) _ (is.samples _ _ fs f)
        (sample_gives γ has a.0.now l fs f);
  };
  is_program = λ γ has. record { none = none_gives γ has; opens = opening_gives γ has; samples = call_gives γ has };
  program_meets = λ γ has m is. record {
    none = λ κs a x.
        sym (session_read m.none) ∙ ap (λ (k : Given). session_in k.0)
        (gives_one (γ session_none.name) (start_mem [] []) [] [] [] (session_value.lowered m.none) (session_value.lowered none_open) [] [] [] []
        is.none (none_gives γ has)) ∙ session_read none_open;
    opens = λ κs a x fits f e.
        let z = a.0.now in
        let s = a.1.0.now in
        let choice = a.1.1.0 in
        let r = m.opens z s choice in
        let y : Answer = open_of z s choice in
        ap (λ (u : Session). answer_told (answer u r.0)) e ∙ sym (answer_read r.0 r.1) ∙ ap given_answer
        (gives_one (γ session_open.name) (program_mem s [] z) (third z ∷ []) (front 0 s ∷ []) (choice_value.lowered choice ∷ [])
        (verdict_value r.0) (verdict_value y.verdict) (r.1 ∷ []) (y.session ∷ []) (s ∷ []) (s ∷ []) (is.opens z s choice fits f)
        (opening_gives γ has z s choice fits f)) ∙ answer_read y.verdict y.session;
    samples = λ κs a x fits f d e.
        let z = a.0.now in
        let l = program.lent_to κs a in
        let r = m.samples z l in
        let y : Answer × List ℕ = sample_call z l.sample l.profile l.targets l.out in
        let s : Buffer = front 1 l.sample in
        let p : Buffer = after s l.profile in
        let left : List ℕ → List (List ℕ) = λ out. l.sample ∷ l.profile ∷ l.targets ∷ out ∷ [] in
        let one = gives_one (γ session_sample.name) (program_mem l.out (l.sample ++ (l.profile ++ l.targets)) z) (third z ∷ [])
        (s ∷ p ∷ after p l.targets ∷ front 0 l.out ∷ []) []
        (verdict_value r.told) (verdict_value y.0.verdict) (r.state ∷ []) (y.0.session ∷ []) (left r.out) (left y.1) (is.samples z l fits f) (call_gives γ has z l fits f) in
        ap₂ (λ (k : ℕ × Told) (out : List ℕ). (k, out))
        (ap (λ (u : Session). answer_told (answer u r.told)) d ∙ sym (answer_read r.told r.state) ∙ ap given_answer one ∙ answer_read y.0.verdict y.0.session)
        (e ∙ ap (λ (k : Given). get_or k.1.1 3 []) one);
  };
}
