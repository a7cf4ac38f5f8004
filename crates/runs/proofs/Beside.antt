-- A memory in which a value lies in a block of its own. Assumes nothing.
use mathlib.Core.Path.{◌≡◌, refl, sym, ◌∙◌, ap, subst}
use mathlib.Core.Bool.{Bool, true, false}
use mathlib.Core.List.{List, [], ◌∷◌, ◌++◌, append-nil}
use mathlib.Core.Option.{Option, none, some, some-injective}
use Prim.Native.Nat.{ℕ, ◌+◌, ◌≤◌}
use native.Mathlib.Omega.{arith}
use lib.Dec.{T, le→leb}
use lib.ListN.{length, drop, drop_of_length-le}
use lib.Seq.{get_or-append_seam, set-append_seam}
use base.Fraction.{full_share}
use mir.Mem.{Cell, fresh}
use mir.Syntax.{Ty}
use mir.Val.{Val, has_ty, WT}
use base.Logic.{ent, sep, upd, via, assoc∗, assoc', mono_l, mono_r, fst∗, ex∗, guard, ex, upd_frame, upd_mono}
use prog.Memory.{Memory, Block, bind, pick, size, align, aligned, enc, splice, cells_in, store_cells, store_m, alloc_m}
use prog.Local.Among.Sizes.{enc-size}
use store.Enc.{length-fresh}
use contract.Adequate.{Satisfies, sat_upd}
use borrow.Fn.World.{World, Pr}
use Rattle.runs.specs.CodeMeets.{beside}

-- ---- a store over all cells of the last block
is_true : (b : Bool) → T b → b ≡ true
is_true true t = refl
is_true false t = absurd t

spliced : (old new : List Cell) → length old ≡ length new → splice old 0 new ≡ some new
spliced old new e =
    let enough : 0 + length new ≤ length old = omega (arith, e) in
    ap (λ (t : Bool). pick t (new ++ drop (0 + length new) old)) (is_true _ (le→leb (0 + length new) (length old) enough))
    ∙ ap (λ (cs : List Cell). some (new ++ cs)) (drop_of_length-le old {i = 0 + length new} (omega (arith, e)))
    ∙ ap (λ (cs : List Cell). some cs) (append-nil new)

overwritten : (σ : Memory) (k : ℕ) (old new : List Cell) → aligned k k 0 ≡ true → length old ≡ length new
    → store_cells (σ ++ (some (k, old, true) ∷ [])) k (length σ) 0 new ≡ some (σ ++ (some (k, new, true) ∷ []))
overwritten σ k [] [] a e = refl
overwritten σ k (c ∷ old) [] a e = absurd (omega (arith, e))
overwritten σ k old (c ∷ new) a e =
    let there : Memory = σ ++ (some (k, old, true) ∷ []) in
    let put : List Cell → Option Memory = λ cs. some (lib.ListN.set there (length σ) (some (k, cs, true))) in
    ap (λ (x : Option Block). bind x (λ e. bind (cells_in k 0 e) (λ cs. bind (splice cs 0 (c ∷ new)) (λ cs'. some (lib.ListN.set there (length σ) (some (e.0, cs', e.2)))))))
    (get_or-append_seam σ (some (k, old, true)) [] none)
    ∙ ap (λ (t : Bool). bind (pick t old) (λ cs. bind (splice cs 0 (c ∷ new)) put)) a
    ∙ ap (λ (x : Option (List Cell)). bind x put) (spliced old (c ∷ new) e)
    ∙ ap some (set-append_seam σ (some (k, old, true)) [] (some (k, c ∷ new, true)))

pub stored_is : (σ : Memory) (τ : Ty) (v : Val) → T (has_ty τ v) → aligned (align τ) (align τ) 0 ≡ true → store_m (alloc_m σ τ) τ (length σ) 0 v ≡ some (beside σ τ v)
stored_is σ τ v h a = overwritten σ (align τ) (fresh (size τ)) (enc τ v) a (length-fresh (size τ) ∙ sym (enc-size τ v h))

-- ---- what a memory satisfies, and the value beside it
module _ (w : World) (σ : Memory) (τ : Ty) (v : Val) (h : T (has_ty τ v)) (wt : WT v) (a : aligned (align τ) (align τ) 0 ≡ true) where
  open w use {𝓤, 𝓛, 𝓜}
  open 𝓛 use {H}

  abbrev ◌∗◌ : Pr w → Pr w → Pr w
  P ∗ Q = sep 𝓤 P Q

  infixr 35 ◌∗◌
  abbrev at : Pr w
  at = H.at full_share τ (length σ) 0 v

  abbrev room : Pr w
  room = H.room τ (length σ) 0

  abbrev dies : Pr w
  dies = H.dies τ (length σ)

  made : (P : Pr w) → Satisfies 𝓤 H 𝓜 σ P → Satisfies 𝓤 H 𝓜 (alloc_m σ τ) (room ∗ P)
  made P = sat_upd 𝓤 H 𝓜 σ (alloc_m σ τ) P (room ∗ P)
      (via 𝓤 (upd 𝓤 (𝓜.mem (alloc_m σ τ) ∗ (room ∗ dies)) ∗ P) (mono_l 𝓤 P (𝓜.alloc σ τ))
      (via 𝓤 (upd 𝓤 ((𝓜.mem (alloc_m σ τ) ∗ (room ∗ dies)) ∗ P)) (upd_frame 𝓤 (𝓜.mem (alloc_m σ τ) ∗ (room ∗ dies)) P)
      (upd_mono 𝓤 (via 𝓤 ((𝓜.mem (alloc_m σ τ) ∗ room) ∗ P) (mono_l 𝓤 P (mono_r 𝓤 (𝓜.mem (alloc_m σ τ)) (fst∗ 𝓤 room dies)))
      (assoc∗ 𝓤 (𝓜.mem (alloc_m σ τ)) room P)))))

  filled : (P : Pr w) → Satisfies 𝓤 H 𝓜 (alloc_m σ τ) (room ∗ P) → Satisfies 𝓤 H 𝓜 (beside σ τ v) (at ∗ P)
  filled P =
      let from : Memory = alloc_m σ τ in
      let to : Memory = beside σ τ v in
      let goal : Pr w = upd 𝓤 (𝓜.mem to ∗ (at ∗ P)) in
      let holds : Memory → Pr w = λ σ'. upd 𝓤 (𝓜.mem σ' ∗ at) in
      let ends : Memory → Pr w = λ σ'. guard 𝓤 (store_m from τ (length σ) 0 v ≡ some σ') (holds σ') in
      sat_upd 𝓤 H 𝓜 from to (room ∗ P) (at ∗ P)
      (via 𝓤 ((𝓜.mem from ∗ room) ∗ P) (assoc' 𝓤 (𝓜.mem from) room P)
      (via 𝓤 (ex 𝓤 ends ∗ P) (mono_l 𝓤 P (𝓜.room_store from τ (length σ) 0 v h wt))
      (ex∗ 𝓤 ends P (λ σ'. ex∗ 𝓤 (λ (_ : store_m from τ (length σ) 0 v ≡ some σ'). holds σ') P (λ e.
      subst (λ (τ' : Memory). ent 𝓤 (holds τ' ∗ P) goal) (some-injective to σ' (sym (stored_is σ τ v h a) ∙ e))
      (via 𝓤 (upd 𝓤 ((𝓜.mem to ∗ at) ∗ P)) (upd_frame 𝓤 (𝓜.mem to ∗ at) P) (upd_mono 𝓤 (assoc∗ 𝓤 (𝓜.mem to) at P))))))))

  pub beside_lies : (P : Pr w) → Satisfies 𝓤 H 𝓜 σ P → Satisfies 𝓤 H 𝓜 (beside σ τ v) (at ∗ P)
  beside_lies P s = filled P (made P s)
