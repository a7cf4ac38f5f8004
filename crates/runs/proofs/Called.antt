-- A call on what lies in memory: lifetimes are made for it, the bytes are lent, and when they are over come back. Assumes nothing.
use mathlib.Core.Path.{◌≡◌, subst}
use mathlib.Core.Logic.{∥∥₁_prop, ∥∥₁_elim, ∥∥₁_map}
use mathlib.Core.List.{List, [], ◌∷◌}
use Prim.Native.Nat.{ℕ, zero, suc}
use base.Fraction.{full_share}
use mir.Val.{Val}
use base.Logic.{ent, sep, emp, ex, via, comm∗, assoc', mono_l, fst∗, snd∗, emp∗}
use base.Fml.{Fml, flft}
use prog.Memory.{Memory}
use prog.Machine.{done as ended}
use prog.Routine.{Routine, step}
use types.Logic.{sem}
use types.Kit.{‵, raw, ◌⊛◌, later, ◌$◌, ◌∵◌, !, qed, move, use1, use3, split, join, await, updating, now as at_once, done}
use types.Tokens.{lft_end}
use contract.Monad.{fact, fact_i, fact_use}
use contract.Lifetimes.{Lfts, Shares, AllOutlive, toks}
use contract.Adequate.{Satisfies, sat_weaken, sat_⇛, sat_ex∗, sat_fact}
use borrow.Fn.World.{World, Pr}
use denote.Exit.{Last}
use denote.RattleType.{flat, owns}
use denote.Signature.{Slot, types_at}
use denote.Triple.Entry.{Args}
use denote.Triple.End.{lasts_of}
use denote.Triple.Clauses.{Ended}
use Rattle.runs.proofs.LentAnswers.{Defined, AnswersLent}
use Rattle.runs.proofs.Passing.{deads, Passings, Names, values, vals_of, befores, asides, afters, Knowns, lend, takes}

module _ (w : World) where
  open w use {𝓤, 𝓛, 𝓜}
  open 𝓛 use {H, A}

  abbrev ◌∗◌ : Pr w → Pr w → Pr w
  P ∗ Q = sep 𝓤 P Q

  abbrev ◌⊢◌ : Pr w → Pr w → Type 1
  P ⊢ Q = ent 𝓤 P Q

  abbrev ⟦◌⟧ : Fml → Pr w
  ⟦ P ⟧ = sem 𝓛 P

  infixr 35 ◌∗◌
  infix 26 ◌⊢◌
  -- ---- lifetimes made for a call
  abbrev fulls : (n : ℕ) → Shares n
  fulls zero = tt
  fulls (suc n) = (full_share, fulls n)

  abbrev alive : (n : ℕ) → Lfts n → Pr w
  alive n κs = toks 𝓛 n κs (fulls n)

  abbrev ◌⊨◌ : Memory → Pr w → Type 1
  σ ⊨ P = Satisfies 𝓤 H 𝓜 σ P

  infix 26 ◌⊨◌
  fresh : (n : ℕ) (F : Pr w) (σ : Memory) → σ ⊨ F → ∥ ((κs : Lfts n) × (alive n κs ⊢ H.⇛ (deads w n κs)) × (σ ⊨ alive n κs ∗ F)) ∥₁
  fresh zero F σ s = ∣ (tt, 𝓛.laws.⇛_intro (emp 𝓤), sat_weaken 𝓤 H 𝓜 σ (emp∗ 𝓤 F) s) ∣₁
  fresh (suc n) F σ s =
      ∥∥₁_elim (fresh n F σ s) ∥∥₁_prop (λ t.
      let P : Pr w = alive n t.0 ∗ F in
      let one : ℕ → Pr w = λ a. A.lft (a ∷ []) full_share in
      ∥∥₁_map (sat_ex∗ 𝓤 H 𝓜 σ one P (sat_⇛ 𝓤 H 𝓜 σ (ex 𝓤 one) P (sat_weaken 𝓤 H 𝓜 σ (via 𝓤 (emp 𝓤 ∗ P) (emp∗ 𝓤 P) (mono_l 𝓤 P 𝓛.lfts.lft_new)) t.2)))
      (λ u. (
        (u.0 ∷ [], t.0),
        (qed 𝓛 (‵ (flft (u.0 ∷ []) full_share) ∷ raw (alive n t.0) ∷ []) ∵ updating ! $ lft_end ! tt $ move ! (1 ∷ []) $
            use1 𝓛 (later (raw (deads w n t.0))) t.1 $ await ! tt $ at_once ! $ move ! (1 ∷ 0 ∷ []) $ done !),
        sat_weaken 𝓤 H 𝓜 σ (assoc' 𝓤 (one u.0) (alive n t.0) F) u.1,
      )))

  updated : (σ : Memory) (P Q : Pr w) → P ⊢ H.⇛ Q → σ ⊨ P → σ ⊨ Q
  updated σ P Q h s =
      sat_weaken 𝓤 H 𝓜 σ (fst∗ 𝓤 Q (emp 𝓤)) (sat_⇛ 𝓤 H 𝓜 σ Q (emp 𝓤) (sat_weaken 𝓤 H 𝓜 σ
      (via 𝓤 (emp 𝓤 ∗ P) (emp∗ 𝓤 P) (via 𝓤 (P ∗ emp 𝓤) (comm∗ 𝓤 (emp 𝓤) P) (mono_l 𝓤 (emp 𝓤) h))) s))

  -- the lifetimes end, and what was lent comes back
  comes_back : (D Own Last Aside Left Alive : Pr w) → Alive ⊢ H.⇛ D → D ∗ (Last ∗ Aside) ⊢ H.⇛ Left → ((Alive ∗ Own) ∗ Last) ∗ Aside ⊢ H.⇛ (Own ∗ Left)
  comes_back D Own Last Aside Left Alive ends back =
      qed 𝓛 (((raw Alive ⊛ raw Own) ⊛ raw Last) ∷ raw Aside ∷ []) ∵ updating ! $ split ! $ split ! $ use1 𝓛 (later (raw D)) ends $ await ! tt $ move !
      (0 ∷ 2 ∷ 3 ∷ []) $
      use3 𝓛 (later (raw Left)) back $ await ! tt $ at_once ! $ move ! (1 ∷ 0 ∷ []) $ done !

  -- ---- a call on what lies in memory
  module _ (T : Ended) (code : Routine) (f : Defined T) (answers : AnswersLent T code f) where
    abbrev n : ℕ
    n = T.signature.lifetimes

    abbrev ss : List (Slot n)
    ss = T.signature.params

    module _ (bounds : (κs : Lfts n) → AllOutlive n T.signature.outlives κs) (ps : (κs : Lfts n) → Passings w n κs ss T.kept) (F : Pr w) where
      abbrev G : Lfts n → Type 0
      G κs = Names w n κs ss T.kept (ps κs)

      abbrev arguments : (κs : Lfts n) → G κs → Args T.signature κs
      arguments κs gs = values w n κs ss T.kept (ps κs) gs

      abbrev Own : (κs : Lfts n) → G κs → Val → Pr w
      Own κs gs v = ⟦ (T.signature.result.row κs).own_val (f κs (arguments κs gs)).0 (v ∷ []) ⟧

      abbrev Left : (κs : Lfts n) → G κs → Pr w
      Left κs gs = afters w n κs ss T.kept (ps κs) gs (f κs (arguments κs gs)).1 F

      abbrev Known : (κs : Lfts n) → G κs → Type 0
      Known κs gs = Knowns w n κs ss T.kept (ps κs) gs (f κs (arguments κs gs)).1

      pub called : (vs : List Val) (B C : Pr w) (φ : Val → Type 0) (ψ : Type 0)
          → ((κs : Lfts n) → flat (types_at ss κs) (vals_of w n κs ss T.kept (ps κs)) ≡ vs)
          → ((κs : Lfts n) → B ⊢ befores w n κs ss T.kept (ps κs) F)
          → ((κs : Lfts n) (gs : G κs) (v : Val) → Own κs gs v ⊢ fact 𝓤 (φ v))
          → ((κs : Lfts n) (gs : G κs) → Known κs gs → ψ)
          → ((κs : Lfts n) (gs : G κs) → Left κs gs ⊢ C)
          → (σ : Memory) → σ ⊨ B → ∥ ((k : ℕ) × (v : Val) × (σ' : Memory) × (step code k vs σ ≡ ended (v, σ')) × φ v × ψ × (σ' ⊨ C)) ∥₁
      called vs B C φ ψ passes enters says knows leaves σ s =
          ∥∥₁_elim (fresh n B σ s) ∥∥₁_prop (λ l.
          let κs : Lfts n = l.0 in
          let aside : G κs → Pr w = λ gs. asides w n κs ss T.kept (ps κs) gs F in
          let own : G κs → Pr w = λ gs. ⟦ owns (types_at ss κs) (arguments κs gs) (vals_of w n κs ss T.kept (ps κs)) ⟧ in
          let lent : G κs → Pr w = λ gs. own gs ∗ aside gs in
          ∥∥₁_elim (sat_ex∗ 𝓤 H 𝓜 σ lent (alive n κs) (sat_⇛ 𝓤 H 𝓜 σ (ex 𝓤 lent) (alive n κs) (sat_weaken 𝓤 H 𝓜 σ
          (via 𝓤 (B ∗ alive n κs) (comm∗ 𝓤 (alive n κs) B) (mono_l 𝓤 (alive n κs)
          (via 𝓤 (befores w n κs ss T.kept (ps κs) F) (enters κs) (lend w n κs ss T.kept (ps κs) F)))) l.2))) ∥∥₁_prop (λ g.
          let gs : G κs = g.0 in
          let last : Pr w = ⟦ lasts_of κs ss T.kept (arguments κs gs) (f κs (arguments κs gs)).1 ⟧ in
          ∥∥₁_elim (answers w (κs, fulls n, bounds κs, arguments κs gs, vals_of w n κs ss T.kept (ps κs)) σ (aside gs) (sat_weaken 𝓤 H 𝓜 σ
          (qed 𝓛 ((raw (own gs) ⊛ raw (aside gs)) ∷ raw (alive n κs) ∷ []) ∵ split ! $ move ! (2 ∷ 0 ∷ []) $ join ! $ done !) g.1)) ∥∥₁_prop (λ c.
          let known : Pr w = fact 𝓤 (Known κs gs) in
          let back : Pr w = known ∗ Left κs gs in
          let Q : Pr w = Own κs gs c.1 ∗ back in
          let s' : c.2 ⊨ Q = updated c.2 _ Q (comes_back (deads w n κs) (Own κs gs c.1) last (aside gs) back (alive n κs) l.1
          (takes w n κs ss T.kept (ps κs) gs (f κs (arguments κs gs)).1 F)) c.4 in
          ∥∥₁_map (sat_fact 𝓤 H 𝓜 c.2 Q (φ c.1 × ψ) (via 𝓤 Q (snd∗ 𝓤 (𝓜.mem c.2) Q)
          (fact_use 𝓤 (φ c.1) (via 𝓤 (Own κs gs c.1) (fst∗ 𝓤 (Own κs gs c.1) back) (says κs gs c.1)) (λ p.
          fact_use 𝓤 (Known κs gs) (via 𝓤 back (snd∗ 𝓤 (Own κs gs c.1) back) (fst∗ 𝓤 known (Left κs gs)))
          (λ q. fact_i 𝓤 (φ c.1 × ψ) Q (p, knows κs gs q))))) s') (λ p. (
            c.0,
            c.1,
            c.2,
            subst (λ (us : List Val). step code c.0 us σ ≡ ended (c.1, c.2)) (passes κs) c.3,
            p.0,
            p.1,
            sat_weaken 𝓤 H 𝓜 c.2 (via 𝓤 back (snd∗ 𝓤 (Own κs gs c.1) back) (via 𝓤 (Left κs gs) (snd∗ 𝓤 known (Left κs gs)) (leaves κs gs))) s',
          )))))
