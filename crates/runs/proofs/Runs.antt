-- The code's own answers, from each call's theorem. Assumes nothing.
use mathlib.Core.Path.{◌≡◌, refl, ap, ap₂}
use mathlib.Core.Logic.{∥∥₁_elim}
use mathlib.Core.List.{List, [], ◌∷◌}
use Prim.Native.Nat.{ℕ, zero, suc, ◌+◌, ◌^◌, ◌<◌}
use native.Mathlib.Bridge.{le_prop}
use lib.Dec.{T, lit<}
use base.Fraction.{full_share}
use mir.Syntax.{w8, w32, ty_int, named}
use lib.ListN.{length}
use mir.Val.{Val, vint, has_ty, WT}
use base.Logic.{ent, sep, emp, id⊢, via, emp∗, mono∗, mono_r, fst∗, snd∗}
use prog.Routine.{Env}
use prog.Wired.{Wired}
use prog.Wp.{run}
use contract.Adequate.{sat_fact}
use contract.Monad.{fact, fact_i, fact_use, guard→fact}
use contract.Lifetimes.{Lfts, Within, lft_at}
use borrow.Fn.World.{World, Pr}
use denote.Exit.{yes}
use denote.Laws.{Is, Makes, shows}
use denote.Ref.{MutRef}
use denote.Struct.Laws.{makes}
use denote.Builtin.{u8, u32}
use denote.Plain.{uint_Makes}
use denote.Enum.Laws as enum
use Rattle.bits.specs.Bytes.{Bytes}
use Rattle.brake.specs.declared.Choice.{Choice}
use Rattle.brake.specs.declared.Choice.TheVariants.{FiveSeconds}
use Rattle.brake.specs.Rear.{choice_of}
use Rattle.brake.specs.contracts.Choice as choice_type
use Rattle.brake.proofs.Choice.TheLaws as choice_laws
use Rattle.session.specs.declared.Session.{Session}
use Rattle.session.specs.Session.{Answer, none_open, answer}
use Rattle.session.specs.Open.{open_of}
use Rattle.sampling.specs.Sample.{sample_call}
use Rattle.session.proofs.Told.{session_one, answer_one, call_one}
use Rattle.session.specs.contracts.Session as session_type
use Rattle.session.proofs.Session.TheLaws as session_laws
use Rattle.session.specs.contracts.none as session_none
use Rattle.session.proofs.none.Met as none_met
use Rattle.session.proofs.none.Symbol as none_code
use Rattle.session.proofs.none.Reads as none_reads
use Rattle.session.specs.contracts.open as session_open
use Rattle.session.proofs.open.Met as open_met
use Rattle.session.proofs.open.Symbol as open_code
use Rattle.session.proofs.open.Reads as open_reads
use Rattle.sampling.specs.contracts.sample as session_sample
use Rattle.sampling.proofs.sample.Met as sample_met
use Rattle.sampling.proofs.sample.Symbol as sample_code
use Rattle.sampling.proofs.sample.Reads as sample_reads
use Rattle.lent.specs.Lent.{Sampled, open_bytes, sample_bytes}
use Rattle.buongilach.specs.contracts.buongilach_open as buongilach_open
use Rattle.buongilach.proofs.buongilach_open.Met as buongilach_open_met
use Rattle.buongilach.proofs.buongilach_open.Symbol as buongilach_open_code
use Rattle.buongilach.proofs.buongilach_open.Reads as buongilach_open_reads
use Rattle.buongilach.specs.contracts.buongilach_open_with as buongilach_open_with
use Rattle.buongilach.proofs.buongilach_open_with.Met as buongilach_open_with_met
use Rattle.buongilach.proofs.buongilach_open_with.Symbol as buongilach_open_with_code
use Rattle.buongilach.proofs.buongilach_open_with.Reads as buongilach_open_with_reads
use Rattle.buongilach.specs.contracts.buongilach_sample as buongilach_sample
use Rattle.buongilach.proofs.buongilach_sample.Met as buongilach_sample_met
use Rattle.buongilach.proofs.buongilach_sample.Symbol as buongilach_sample_code
use Rattle.buongilach.proofs.buongilach_sample.Reads as buongilach_sample_reads
use Rattle.demands.specs.Program.{FitsWords}
use Rattle.runs.specs.Runs.{Buffer, size, passed, with, Place, pointer, holding, verdict_row, Short, lie, stand, Answers, Runs}
use Rattle.runs.proofs.SessionFits.{session_fits, session_is, typed_fits, fits_one}
use Rattle.runs.proofs.LentAnswers.{Defined, AnswersLent, answers_lent}
use Rattle.runs.proofs.Passing.{noted, lies, kept_at, Passing, valued, shared, changed, renewed}
use Rattle.runs.proofs.Called.{called}

-- ---- what each call is to answer where its arguments are lent, and that its code answers so
abbrev none_says : Defined session_none.ended
none_says κs a = (none_open, tt)

abbrev open_says : Defined session_open.ended
open_says κs = λ (x, (s, (choice, _))). let y = open_of x.now s.now choice in (y.verdict, (y.session, (tt, (tt, tt))))

abbrev sample_says : Defined session_sample.ended
sample_says κs = λ (x, (s, (p, (t, (out, _))))).
    let y = sample_call x.now s.now p.now t.now out.now in
    (y.0.verdict, (y.0.session, (tt, (tt, (tt, (y.1, tt))))))

abbrev open_bytes_say : Defined buongilach_open.ended
open_bytes_say κs = λ (session, (consist, _)).
    let y = open_bytes consist.now session.now FiveSeconds in
    (y.0, (y.1, (tt, tt)))

abbrev open_bytes_with_say : Defined buongilach_open_with.ended
open_bytes_with_say κs = λ (session, (consist, (everlasting, _))).
    let y = open_bytes consist.now session.now (choice_of everlasting) in
    (y.0, (y.1, (tt, (tt, tt))))

abbrev sample_bytes_say : Defined buongilach_sample.ended
sample_bytes_say κs = λ (session, (s, (p, (t, (decision, _))))).
    let y = sample_bytes session.now s.now p.now t.now decision.now in
    (y.0, (y.1, (tt, (tt, (tt, (y.2, tt))))))

none_lent : (γ : Env) → Wired γ none_code.code → AnswersLent session_none.ended (γ none_code.name) none_says
none_lent γ wired = answers_lent session_none.ended none_reads.Post none_code.code none_code.name (λ w. none_met.met w.𝓤 w.𝓛 w.𝓜 w.𝓡) γ wired none_says
    (λ κs a r ws p. ap (λ (y : Session). (y, tt)) (session_one _ _ p))

open_lent : (γ : Env) → Wired γ open_code.code → AnswersLent session_open.ended (γ open_code.name) open_says
open_lent γ wired = answers_lent session_open.ended open_reads.Post open_code.code open_code.name (λ w. open_met.met w.𝓤 w.𝓛 w.𝓜 w.𝓡) γ wired open_says
    (λ κs a r ws p. ap (λ (y : Answer). (y.verdict, (y.session, (tt, (tt, tt))))) (answer_one (answer ws.0 r) _ p))

sample_lent : (γ : Env) → Wired γ sample_code.code → AnswersLent session_sample.ended (γ sample_code.name) sample_says
sample_lent γ wired = answers_lent session_sample.ended sample_reads.Post sample_code.code sample_code.name (λ w. sample_met.met w.𝓤 w.𝓛 w.𝓜 w.𝓡) γ wired sample_says
    (λ κs a r ws p. ap (λ (y : Answer × List ℕ). (y.0.verdict, (y.0.session, (tt, (tt, (tt, (y.1, tt))))))) (call_one (answer ws.0 r, ws.1.1.1.1.0) _ p))

buongilach_open_lent : (γ : Env) → Wired γ buongilach_open_code.code → AnswersLent buongilach_open.ended (γ buongilach_open_code.name) open_bytes_say
buongilach_open_lent γ wired = answers_lent buongilach_open.ended buongilach_open_reads.Post buongilach_open_code.code buongilach_open_code.name (λ w. buongilach_open_met.met w.𝓤 w.𝓛 w.𝓜 w.𝓡) γ wired open_bytes_say
    (λ κs a r ws p. ap (λ (y : ℕ × List ℕ). (y.0, (y.1, (tt, tt)))) p)

buongilach_open_with_lent : (γ : Env) → Wired γ buongilach_open_with_code.code → AnswersLent buongilach_open_with.ended (γ buongilach_open_with_code.name) open_bytes_with_say
buongilach_open_with_lent γ wired = answers_lent buongilach_open_with.ended buongilach_open_with_reads.Post buongilach_open_with_code.code buongilach_open_with_code.name (λ w. buongilach_open_with_met.met w.𝓤 w.𝓛 w.𝓜 w.𝓡) γ wired open_bytes_with_say
    (λ κs a r ws p. ap (λ (y : ℕ × List ℕ). (y.0, (y.1, (tt, (tt, tt))))) p)

buongilach_sample_lent : (γ : Env) → Wired γ buongilach_sample_code.code → AnswersLent buongilach_sample.ended (γ buongilach_sample_code.name) sample_bytes_say
buongilach_sample_lent γ wired = answers_lent buongilach_sample.ended buongilach_sample_reads.Post buongilach_sample_code.code buongilach_sample_code.name (λ w. buongilach_sample_met.met w.𝓤 w.𝓛 w.𝓜 w.𝓡) γ wired sample_bytes_say
    (λ κs a r ws p. ap (λ (y : Sampled). (y.0, (y.1, (tt, (tt, (tt, (y.2, tt))))))) p)

-- ---- bytes lie in memory
bytes_more : (x : ℕ) (xs : List ℕ) → x < 256 → Bytes xs → Bytes (x ∷ xs)
bytes_more x xs h b zero = h
bytes_more x xs h b (suc i) = b i

bytes_of : (w : World) (xs : List ℕ) (b o : ℕ) → ent w.𝓤 (run w.𝓤 w.𝓛.H full_share w8 b o xs) (fact w.𝓤 (Bytes xs))
bytes_of w [] b o = fact_i w.𝓤 (Bytes []) (emp w.𝓤) (λ i. lit< tt)
bytes_of w (x ∷ xs) b o =
    let at : Pr w = w.𝓛.H.at full_share (ty_int w8) b o (vint w8 x) in
    let more : Pr w = run w.𝓤 w.𝓛.H full_share w8 b (o + 1) xs in
    let typed : Type 0 = T (has_ty (ty_int w8) (vint w8 x)) × WT (vint w8 x) in
    fact_use w.𝓤 typed (via w.𝓤 at (fst∗ w.𝓤 at more) (via w.𝓤 _ (w.𝓜.at_wt full_share (ty_int w8) b o (vint w8 x)) (guard→fact w.𝓤 typed at)))
    (λ t.
    fact_use w.𝓤 (Bytes xs) (via w.𝓤 more (snd∗ w.𝓤 at more) (bytes_of w xs b (o + 1)))
    (λ q. fact_i w.𝓤 (Bytes (x ∷ xs)) _ (bytes_more x xs t.1.fits q)))

-- ---- a session stands in memory
module _ (w : World) where
  open w use {𝓤, 𝓛, 𝓜}
  open 𝓛 use {H}

  abbrev plainly : Makes 𝓛 session_type.the_row (Is session_type.the_row)
  plainly = makes session_type.the_type session_laws.the_plain 𝓛

  -- its machine value
  abbrev standing : Session → ℕ → ℕ → Pr w
  standing x b o = H.at full_share session_laws.mir b o (session_laws.lowered x)

  -- that value, known to be the session's
  abbrev typed : Session → ℕ → ℕ → Pr w
  typed = kept_at w session_type.the_row session_laws.lowers plainly

  fits_words : (x : Session) (b o : ℕ) → ent 𝓤 (standing x b o) (fact 𝓤 (FitsWords x))
  fits_words x b o =
      let form : Type 0 = T (has_ty session_laws.mir (session_laws.lowered x)) × WT (session_laws.lowered x) in
      fact_use 𝓤 form (via 𝓤 _ (𝓜.at_wt full_share session_laws.mir b o (session_laws.lowered x)) (guard→fact 𝓤 form (standing x b o)))
      (λ t. fact_i 𝓤 (FitsWords x) (standing x b o) (typed_fits x t.0 t.1))

  to_typed : (x : Session) (b o : ℕ) → ent 𝓤 (standing x b o) (typed x b o)
  to_typed x b o = fact_use 𝓤 (FitsWords x) (fits_words x b o) (λ f. noted w (Is session_type.the_row x (session_laws.lowered x ∷ [])) (standing x b o) (session_is x f))

  of_typed : (x : Session) (b o : ℕ) → ent 𝓤 (typed x b o) (standing x b o)
  of_typed x b o = snd∗ 𝓤 (fact 𝓤 (Is session_type.the_row x (session_laws.lowered x ∷ []))) (standing x b o)

-- ---- and where all that lies in memory
module _ (w : World) (γ : Env) where
  open w use {𝓤, 𝓛}

  abbrev chosen : (choice : Choice) (u : Val) → Is choice_type.the_row choice (u ∷ []) → (n : ℕ) (κs : Lfts n) → Passing w n κs choice_type.the_row yes
  chosen choice u is n κs = valued w n κs choice_type.the_row choice (u ∷ []) (enum.makes choice_type.the_type choice_laws.the_plain 𝓛 choice (u ∷ []) is)

  abbrev moved : (p : Place) (n : ℕ) (ok : Within n 0) (κs : Lfts n) → Passing w n κs (MutRef (named 0) (lft_at n 0 ok κs) session_type.the_row) yes
  moved p n ok κs = renewed w n κs 0 ok session_type.the_row session_laws.lowers (plainly w) p.session p.block p.offset

  -- the session is lent first, and comes back first
  lends_first : (p : Place) (P Q : Pr w) → ent 𝓤 P Q → ent 𝓤 (stand w (p ∷ []) P) (sep 𝓤 (typed w p.session p.block p.offset) Q)
  lends_first p P Q h = mono∗ 𝓤 (to_typed w p.session p.block p.offset) h

  back_first : (p : Place) (P Q : Pr w) → ent 𝓤 P Q → ent 𝓤 (sep 𝓤 (typed w p.session p.block p.offset) P) (stand w (p ∷ []) Q)
  back_first p P Q h = mono∗ 𝓤 (of_typed w p.session p.block p.offset) h

  opens : Wired γ open_code.code → (p : Place) (s : Buffer) → Short (s ∷ []) → (choice : Choice) (u : Val) → Is choice_type.the_row choice (u ∷ [])
      → let y = open_of p.session s.bytes choice in
      Answers w (γ open_code.name) (p ∷ []) (s ∷ []) (u ∷ []) verdict_row y.verdict (holding p y.session ∷ []) (s ∷ [])
  unfolding valued shared renewed
  opens wired p s short choice c is_c σ rest =
      let y : Answer = open_of p.session s.bytes choice in
      let q : Place = holding p y.session in
      called w session_open.ended (γ open_code.name) open_says (open_lent γ wired) (λ κs. tt)
      (λ κs. (moved p 2 tt κs, (shared w 2 κs 1 tt s short.0, (chosen choice c is_c 2 κs, tt)))) rest
      (pointer p ∷ passed s ∷ c ∷ []) (stand w (p ∷ []) (lie w (s ∷ []) rest)) (stand w (q ∷ []) (lie w (s ∷ []) rest))
      (λ u. Is verdict_row y.verdict (u ∷ [])) (size s ∷ [] ≡ size s ∷ []) (λ κs. refl)
      (λ κs. lends_first p (lie w (s ∷ []) rest) (sep 𝓤 (lies w s) (sep 𝓤 (emp 𝓤) rest)) (mono_r 𝓤 (lies w s) (emp∗ 𝓤 rest)))
      (λ κs gs u. shows 𝓛 verdict_row y.verdict (u ∷ [])) (λ κs gs k. refl)
      (λ κs gs. back_first q (sep 𝓤 (lies w s) (sep 𝓤 (emp 𝓤) rest)) (lie w (s ∷ []) rest) (mono_r 𝓤 (lies w s) (snd∗ 𝓤 (emp 𝓤) rest))) σ

  samples : Wired γ sample_code.code → (x : Place) (s p t out : Buffer) → Short (s ∷ p ∷ t ∷ out ∷ [])
      → let y = sample_call x.session s.bytes p.bytes t.bytes out.bytes in
      Answers w (γ sample_code.name) (x ∷ []) (s ∷ p ∷ t ∷ out ∷ []) [] verdict_row y.0.verdict (holding x y.0.session ∷ []) (s ∷ p ∷ t ∷ with out y.1 ∷ [])
  unfolding shared changed renewed
  samples wired x s p t out short σ rest =
      let y : Answer × List ℕ = sample_call x.session s.bytes p.bytes t.bytes out.bytes in
      let z : Place = holding x y.0.session in
      let B : Pr w = lie w (s ∷ p ∷ t ∷ out ∷ []) rest in
      let C : Pr w = lie w (s ∷ p ∷ t ∷ with out y.1 ∷ []) rest in
      let (s<, (p<, (t<, (out<, _)))) = short in
      let sizes : ℕ → List ℕ = λ k. size s ∷ size p ∷ size t ∷ k ∷ [] in
      called w session_sample.ended (γ sample_code.name) sample_says (sample_lent γ wired) (λ κs. tt)
      (λ κs. (moved x 5 tt κs, (shared w 5 κs 1 tt s s<, (shared w 5 κs 2 tt p p<, (shared w 5 κs 3 tt t t<, (changed w 5 κs 4 tt out out<, tt))))))
      rest (pointer x ∷ passed s ∷ passed p ∷ passed t ∷ passed out ∷ []) (stand w (x ∷ []) B) (stand w (z ∷ []) C)
      (λ u. Is verdict_row y.0.verdict (u ∷ [])) (sizes (length y.1) ≡ sizes (size out)) (λ κs. refl) (λ κs. lends_first x B B (id⊢ 𝓤 B))
      (λ κs gs u. shows 𝓛 verdict_row y.0.verdict (u ∷ [])) (λ κs gs. λ (_, (_, (_, (_, (k, _))))). ap sizes k)
      (λ κs gs. back_first z C C (id⊢ 𝓤 C)) σ

  buongilach_opens : Wired γ buongilach_open_code.code → (session consist : Buffer) → Short (session ∷ consist ∷ []) → let y = open_bytes consist.bytes session.bytes FiveSeconds in
      Answers w (γ buongilach_open_code.name) [] (session ∷ consist ∷ []) [] u8 y.0 [] (with session y.1 ∷ consist ∷ [])
  unfolding shared changed
  buongilach_opens wired session consist short σ rest =
      let y : ℕ × List ℕ = open_bytes consist.bytes session.bytes FiveSeconds in
      let B : Pr w = lie w (session ∷ consist ∷ []) rest in
      let C : Pr w = lie w (with session y.1 ∷ consist ∷ []) rest in
      let sizes : ℕ → List ℕ = λ k. k ∷ size consist ∷ [] in
      called w buongilach_open.ended (γ buongilach_open_code.name) open_bytes_say (buongilach_open_lent γ wired) (λ κs. tt)
      (λ κs. (changed w 2 κs 0 tt session short.0, (shared w 2 κs 1 tt consist short.1.0, tt))) rest (passed session ∷ passed consist ∷ []) B C
      (λ u. Is u8 y.0 (u ∷ [])) (sizes (length y.1) ≡ sizes (size session)) (λ κs. refl) (λ κs. id⊢ 𝓤 B)
      (λ κs gs u. shows 𝓛 u8 y.0 (u ∷ [])) (λ κs gs k. ap sizes k.0) (λ κs gs. id⊢ 𝓤 C) σ

  buongilach_opens_with : Wired γ buongilach_open_with_code.code → (session consist : Buffer) → Short (session ∷ consist ∷ []) → (everlasting : ℕ) → everlasting < 2 ^ 32 → let y = open_bytes consist.bytes session.bytes (choice_of everlasting) in
      Answers w (γ buongilach_open_with_code.name) [] (session ∷ consist ∷ []) (vint w32 everlasting ∷ []) u8 y.0 [] (with session y.1 ∷ consist ∷ [])
  unfolding valued shared changed
  buongilach_opens_with wired session consist short everlasting fits σ rest =
      let y : ℕ × List ℕ = open_bytes consist.bytes session.bytes (choice_of everlasting) in
      let B : Pr w = lie w (session ∷ consist ∷ []) rest in
      let C : Pr w = lie w (with session y.1 ∷ consist ∷ []) rest in
      let sizes : ℕ → List ℕ = λ k. k ∷ size consist ∷ [] in
      let number : (κs : Lfts 2) → Passing w 2 κs u32 yes = λ κs.
      valued w 2 κs u32 everlasting (vint w32 everlasting ∷ []) (uint_Makes 𝓛 w32 everlasting (vint w32 everlasting ∷ []) (refl, fits)) in
      called w buongilach_open_with.ended (γ buongilach_open_with_code.name) open_bytes_with_say (buongilach_open_with_lent γ wired) (λ κs. tt)
      (λ κs. (changed w 2 κs 0 tt session short.0, (shared w 2 κs 1 tt consist short.1.0, (number κs, tt)))) rest
      (passed session ∷ passed consist ∷ vint w32 everlasting ∷ []) B C
      (λ u. Is u8 y.0 (u ∷ [])) (sizes (length y.1) ≡ sizes (size session)) (λ κs. refl) (λ κs. mono_r 𝓤 (lies w session) (mono_r 𝓤 (lies w consist) (emp∗ 𝓤 rest)))
      (λ κs gs u. shows 𝓛 u8 y.0 (u ∷ [])) (λ κs gs k. ap sizes k.0) (λ κs gs. mono_r 𝓤 (lies w (with session y.1)) (mono_r 𝓤 (lies w consist) (snd∗ 𝓤 (emp 𝓤) rest))) σ

  buongilach_samples : Wired γ buongilach_sample_code.code → (session s p t decision : Buffer) → Short (session ∷ s ∷ p ∷ t ∷ decision ∷ [])
      → let y = sample_bytes session.bytes s.bytes p.bytes t.bytes decision.bytes in
      Answers w (γ buongilach_sample_code.name) [] (session ∷ s ∷ p ∷ t ∷ decision ∷ []) [] u8 y.0 [] (with session y.1 ∷ s ∷ p ∷ t ∷ with decision y.2 ∷ [])
  unfolding shared changed
  buongilach_samples wired session s p t decision short σ rest =
      let y : Sampled = sample_bytes session.bytes s.bytes p.bytes t.bytes decision.bytes in
      let B : Pr w = lie w (session ∷ s ∷ p ∷ t ∷ decision ∷ []) rest in
      let C : Pr w = lie w (with session y.1 ∷ s ∷ p ∷ t ∷ with decision y.2 ∷ []) rest in
      let (session<, (s<, (p<, (t<, (decision<, _))))) = short in
      let sizes : ℕ → ℕ → List ℕ = λ j k. j ∷ size s ∷ size p ∷ size t ∷ k ∷ [] in
      called w buongilach_sample.ended (γ buongilach_sample_code.name) sample_bytes_say (buongilach_sample_lent γ wired) (λ κs. tt)
      (λ κs. (changed w 5 κs 0 tt session session<, (shared w 5 κs 1 tt s s<, (shared w 5 κs 2 tt p p<, (shared w 5 κs 3 tt t t<, (changed w 5 κs 4 tt decision decision<, tt))))))
      rest (passed session ∷ passed s ∷ passed p ∷ passed t ∷ passed decision ∷ []) B C
      (λ u. Is u8 y.0 (u ∷ [])) (sizes (length y.1) (length y.2) ≡ sizes (size session) (size decision)) (λ κs. refl) (λ κs. id⊢ 𝓤 B)
      (λ κs gs u. shows 𝓛 u8 y.0 (u ∷ [])) (λ κs gs. λ (j, (_, (_, (_, (k, _))))). ap₂ sizes j k) (λ κs gs. id⊢ 𝓤 C) σ

pub runs : Runs
runs = record {
  fits = session_fits;
  stands = λ w p rest σ s.
      let standing : Pr w = w.𝓛.H.at full_share session_laws.mir p.block p.offset (session_laws.lowered p.session) in
      ∥∥₁_elim (sat_fact w.𝓤 w.𝓛.H w.𝓜 σ (sep w.𝓤 standing rest) (FitsWords p.session)
      (via w.𝓤 (sep w.𝓤 standing rest) (snd∗ w.𝓤 (w.𝓜.mem σ) (sep w.𝓤 standing rest))
      (via w.𝓤 standing (fst∗ w.𝓤 standing rest) (fits_words w p.session p.block p.offset))) s)
      (fits_one p.session) (λ h. h);
  bytes = λ w b rest σ s i.
      let lying : Pr w = run w.𝓤 w.𝓛.H full_share w8 b.block b.offset b.bytes in
      ∥∥₁_elim (sat_fact w.𝓤 w.𝓛.H w.𝓜 σ (sep w.𝓤 lying rest) (Bytes b.bytes)
      (via w.𝓤 (sep w.𝓤 lying rest) (snd∗ w.𝓤 (w.𝓜.mem σ) (sep w.𝓤 lying rest))
      (via w.𝓤 lying (fst∗ w.𝓤 lying rest) (bytes_of w b.bytes b.block b.offset))) s)
      le_prop (λ h. h i);
  none = λ w γ wired σ rest. called w session_none.ended (γ none_code.name) none_says (none_lent γ wired) (λ κs. tt) (λ κs. tt) rest [] rest rest
      (λ v. Is session_type.the_row none_open (v ∷ [])) ([] ≡ [])
      (λ κs. refl) (λ κs. id⊢ w.𝓤 rest) (λ κs gs v. shows w.𝓛 session_type.the_row none_open (v ∷ [])) (λ κs gs k. refl)
      (λ κs gs. id⊢ w.𝓤 rest) σ;
  opens = opens;
  samples = samples;
  buongilach_opens = buongilach_opens;
  buongilach_opens_with = buongilach_opens_with;
  buongilach_samples = buongilach_samples;
}
