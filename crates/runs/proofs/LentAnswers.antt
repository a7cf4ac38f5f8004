-- From a call's theorem to its code's own run, where the arguments are lent. Assumes nothing.
use mathlib.Core.Path.{◌≡◌, subst}
use mathlib.Core.Logic.{∥∥₁_map}
use Prim.Native.Nat.{ℕ}
use mir.Val.{Val}
use base.Logic.{ent, sep, emp, ex, id⊢, via, comm∗, mono_l, fst∗, snd∗, ex_e, ex∗}
use prog.Memory.{Memory}
use prog.Machine.{done}
use prog.Routine.{Routine, Env, Callee, step}
use prog.Wired.{Code, Wired}
use types.Logic.{sem}
use contract.Lifetimes.{Lfts}
use contract.Monad.{fact, fact_use}
use contract.Running.{tables, strict, within}
use contract.Adequate.{Satisfies, sat_weaken, sat_⇛}
use borrow.Fn.World.{World, Pr}
use denote.Triple.Entry.{Args, Res, on_entry}
use denote.Triple.Bound.{Bound, passed}
use denote.Triple.Spec.{Back, triple_of, Meets}
use denote.Triple.Clauses.{Ended, Lasts, AtExit, at_exit, lasts, Clauses, closing}
use denote.Triple.Adequate.{adequate}
use denote.Ask.Bracket.{beside}

-- the same model, where calls are an environment's, with no other thread and no status at which the process may stop
abbrev pub at_Env : World → Env → World
at_Env w γ = record { M = w.M; 𝓤 = w.𝓤; 𝓛 = w.𝓛; 𝓜 = w.𝓜; 𝓡 = within w.𝓤 w.𝓛.H w.𝓜 (strict w.𝓤 w.𝓛.H w.𝓜 w.𝓡) γ }

module _ (T : Ended) where
  -- an answer to every argument, and the last value under every reference that was lent to be written
  abbrev pub Defined : Type 0
  Defined = (κs : Lfts T.signature.lifetimes) (a : Args T.signature κs) → Res T.signature κs × Lasts T κs a

  -- called where its arguments are lent, the code ends; the lifetimes go on, the value that it returns is that of the answer, and the rest is untouched
  abbrev pub AnswersLent : Routine → Defined → Type 2
  AnswersLent routine f =
      (w : World) (x : Bound w.𝓛 T.signature) (σ : Memory) (F : Pr w)
      → Satisfies w.𝓤 w.𝓛.H w.𝓜 σ (sep w.𝓤 (on_entry w.𝓛 T.signature x.0 x.1 x.3 x.4) F)
      → ∥ ((n : ℕ) × (v : Val) × (σ' : Memory) × (step routine n (passed w.𝓛 T.signature x) σ ≡ done (v, σ'))
      × Satisfies w.𝓤 w.𝓛.H w.𝓜 σ' (sep w.𝓤 (sep w.𝓤 (Back w.𝓛 T.signature x v (f x.0 x.3).0)
      (sem w.𝓛 (lasts T x.0 x.3 (f x.0 x.3).1))) F)) ∥₁

  module _ (Post : (κs : Lfts T.signature.lifetimes) → Args T.signature κs → Res T.signature κs → AtExit T κs → Type 0) where
    -- the contract that asks nothing and says Post
    abbrev pub plainly : (w : World) → Clauses w.𝓤 T
    plainly w κs a = record { ghost = Unit {0}; requires = λ _. emp w.𝓤; ensures = λ _ r x. fact w.𝓤 (Post κs a r x) }

    -- the function's theorem, where the contract is that one
    abbrev pub Theorem : Code → Callee → Type 2
    Theorem code name = (w : World) → Wired w.𝓡.env code → Meets w.𝓛 T.signature (w.𝓡.run (w.𝓡.env name)) (closing w.𝓛 T (plainly w))

    -- Post allows one answer
    abbrev pub Only : Defined → Type 0
    Only f =
        (κs : Lfts T.signature.lifetimes) (a : Args T.signature κs) (r : Res T.signature κs) (ws : Lasts T κs a)
        → Post κs a r (at_exit T κs a ws) → ◌≡◌ {A = Res T.signature κs × Lasts T κs a} (r, ws) (f κs a)

    module _ (code : Code) (name : Callee) (met : Theorem code name) (γ : Env) (wired : Wired γ code) (f : Defined) (only : Only f) where
      module _ (w : World) (x : Bound w.𝓛 T.signature) (v : Val) where
        open w use {𝓤, 𝓛}

        abbrev back : Res T.signature x.0 → Pr w
        back r = Back 𝓛 T.signature x v r

        abbrev last : Lasts T x.0 x.3 → Pr w
        last ws = sem 𝓛 (lasts T x.0 x.3 ws)

        abbrev says : Res T.signature x.0 → Lasts T x.0 x.3 → Pr w
        says r ws = sep 𝓤 (last ws) (fact 𝓤 (Post x.0 x.3 r (at_exit T x.0 x.3 ws)))

        told : ent 𝓤 (ex 𝓤 (λ (r : Res T.signature x.0). sep 𝓤 (back r) (ex 𝓤 (says r)))) (sep 𝓤 (back (f x.0 x.3).0) (last (f x.0 x.3).1))
        told =
            ex_e 𝓤 (λ (r : Res T.signature x.0). sep 𝓤 (back r) (ex 𝓤 (says r))) (λ r.
            via 𝓤 (sep 𝓤 (ex 𝓤 (says r)) (back r)) (comm∗ 𝓤 (back r) (ex 𝓤 (says r)))
            (ex∗ 𝓤 (says r) (back r) (λ ws.
            let φ : Type 0 = Post x.0 x.3 r (at_exit T x.0 x.3 ws) in
            fact_use 𝓤 φ (via 𝓤 (says r ws) (fst∗ 𝓤 (says r ws) (back r)) (snd∗ 𝓤 (last ws) (fact 𝓤 φ))) (λ p.
            subst (λ (y : Res T.signature x.0 × Lasts T x.0 x.3). ent 𝓤 (sep 𝓤 (says r ws) (back r)) (sep 𝓤 (back y.0) (last y.1)))
            (only x.0 x.3 r ws p)
            (via 𝓤 (sep 𝓤 (last ws) (back r)) (mono_l 𝓤 (back r) (fst∗ 𝓤 (last ws) (fact 𝓤 φ))) (comm∗ 𝓤 (last ws) (back r)))))))

      pub answers_lent : AnswersLent (γ name) f
      answers_lent w x σ F s =
          let v : World = at_Env w γ in
          let entry : Pr w = on_entry w.𝓛 T.signature x.0 x.1 x.3 x.4 in
          ∥∥₁_map (adequate w.𝓤 w.𝓛.H w.𝓜 (tables w.𝓤 w.𝓛.H w.𝓜 v.𝓡 γ) ((λ s o. o), tt) name
          (triple_of w.𝓛 T.signature (closing w.𝓛 T (plainly v))) (met v wired) (x, tt) σ F
          (sat_weaken w.𝓤 w.𝓛.H w.𝓜 σ (mono_l w.𝓤 F (beside w.𝓤 entry (emp w.𝓤) (id⊢ w.𝓤 (emp w.𝓤)))) s))
          (λ c. (
            c.0,
            c.1,
            c.2,
            c.3,
            sat_weaken w.𝓤 w.𝓛.H w.𝓜 c.2 (mono_l w.𝓤 F (told w x c.1)) (sat_⇛ w.𝓤 w.𝓛.H w.𝓜 c.2 _ F c.4),
          ))
