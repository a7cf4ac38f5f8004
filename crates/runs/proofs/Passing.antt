-- What lies in memory is lent to a call and taken back. Assumes nothing.
use mathlib.Core.Path.{◌≡◌, refl, sym, subst}
use mathlib.Core.List.{List, [], ◌∷◌}
use Prim.Native.Nat.{ℕ, zero, suc, ◌+◌, ◌<◌, ◌^◌}
use native.Mathlib.Nat.{lt_trans, mul-one}
use lib.Dec.{lit<}
use lib.ListN.{length}
use base.Fraction.{full_share}
use mir.Syntax.{Ty, w8, named}
use mir.Raw.{raw as untied}
use mir.Val.{Val, vptr}
use base.Logic.{ent, sep, emp, ex, id⊢, via, mono∗, mono_l, fst∗, snd∗, emp∗}
use base.Fml.{Lft, GName, Fml, fsep, ftrue, fdead, flent, feq, fbor, fat, fres}
use prog.Wp.{run}
use types.Logic.{sem}
use types.Kit.{‵, raw, ◌⊛◌, some, later, ◌$◌, ◌∵◌, !, qed, by, move, keep, use0, use1, use3, split, join, pick, rewrite, fpick, fpack, fsplit, fjoin, feq_l, frame, await, updating, now as at_once, show, done}
use types.Tokens.{lent_back}
use types.SemTy.{cells, Arr, Body}
use types.Hole.{Holey}
use types.Share.{parts}
use contract.Monad.{fact, fact_i}
use contract.Lifetimes.{Lfts, Within, lft_at}
use borrow.Fn.World.{World, Pr}
use denote.Exit.{Kept, yes, Last, left}
use denote.RattleType.{RattleType, Denots, Valss, owns}
use denote.Signature.{Slot, types_at}
use denote.Memory.{mem, shares, part_of, cell_at, raw_all}
use denote.Plain.{uint_in, uint_out}
use denote.Builtin.{u8}
use denote.Copied.{each_lends, uint_Copied}
use denote.Shadow.{pure_i}
use denote.Slice.{MutSlice, ShrSlice, Room, finally, elements_shared, shr_slice_at}
use denote.Lend.{Held, lends_slice, slice_back, lends_ref, ref_back}
use denote.Ref.{MutRef}
use denote.Laws.{Is, Makes, shows}
use denote.Lowered.{Lowered}
use denote.Steps.{heard}
use denote.Triple.End.{Kepts, Fins, lasts_of}
use Rattle.runs.specs.Runs.{Buffer, passed, with}

module _ (w : World) where
  open w use {𝓤, 𝓛}
  open 𝓛 use {H, A}

  abbrev ◌∗◌ : Pr w → Pr w → Pr w
  P ∗ Q = sep 𝓤 P Q

  abbrev ◌⊢◌ : Pr w → Pr w → Type 1
  P ⊢ Q = ent 𝓤 P Q

  abbrev ⟦◌⟧ : Fml → Pr w
  ⟦ P ⟧ = sem 𝓛 P

  infixr 35 ◌∗◌
  infix 26 ◌⊢◌
  abbrev lying : List ℕ → ℕ → ℕ → Pr w
  lying xs b o = run 𝓤 H full_share w8 b o xs

  abbrev pub lies : Buffer → Pr w
  lies b = lying b.bytes b.block b.offset

  pub noted : (φ : Type 0) (P : Pr w) → φ → P ⊢ fact 𝓤 φ ∗ P
  noted φ P p = via 𝓤 (emp 𝓤 ∗ P) (emp∗ 𝓤 P) (mono_l 𝓤 P (fact_i 𝓤 φ (emp 𝓤) p))

  pub to_cells : (xs : List ℕ) (b o : ℕ) → lying xs b o ⊢ ⟦ cells (mem u8) xs b o ⟧
  to_cells [] b o = id⊢ 𝓤 (emp 𝓤)
  to_cells (x ∷ xs) b o = mono∗ 𝓤 (uint_in 𝓛 full_share w8 x b o) (to_cells xs b (o + 1))

  pub of_cells : (xs : List ℕ) (b o : ℕ) → ⟦ cells (mem u8) xs b o ⟧ ⊢ lying xs b o
  of_cells [] b o = id⊢ 𝓤 (emp 𝓤)
  of_cells (x ∷ xs) b o = mono∗ 𝓤 (uint_out 𝓛 full_share w8 x b o) (of_cells xs b (o + 1))

  pub to_parts : (xs : List ℕ) (b o : ℕ) → lying xs b o ⊢ ⟦ parts (mem u8) (shares u8) full_share xs b o ⟧
  to_parts [] b o = id⊢ 𝓤 (emp 𝓤)
  to_parts (x ∷ xs) b o = mono∗ 𝓤 (uint_in 𝓛 full_share w8 x b o) (to_parts xs b (o + 1))

  pub of_parts : (xs : List ℕ) (b o : ℕ) → ⟦ parts (mem u8) (shares u8) full_share xs b o ⟧ ⊢ lying xs b o
  of_parts [] b o = id⊢ 𝓤 (emp 𝓤)
  of_parts (x ∷ xs) b o = mono∗ 𝓤 (uint_out 𝓛 full_share w8 x b o) (of_parts xs b (o + 1))

  -- ---- a value of a type that owns nothing
  module _ (R : RattleType) (low : Lowered R) (makes : Makes 𝓛 R (Is R)) where
    -- it lies in memory as the machine's value
    abbrev pub kept_at : R.Denot → ℕ → ℕ → Pr w
    kept_at x b o = fact 𝓤 (Is R x (low.lowered x ∷ [])) ∗ H.at full_share low.mir b o (low.lowered x)

    -- as its type's memory has it
    abbrev owned : List Ty → R.Denot → ℕ → ℕ → Fml
    owned τs = part_of (raw_all τs) R.own_val full_share

    abbrev one : List Ty
    one = low.mir ∷ []

    in_one : (x : R.Denot) (b o : ℕ) → kept_at x b o ⊢ ⟦ owned one x b o ⟧
    unfolding part_of
    in_one x b o =
        let v : Val = low.lowered x in
        qed 𝓛 (raw (fact 𝓤 (Is R x (v ∷ []))) ∷ ‵ (fat full_share low.mir b o v) ∷ []) ∵ heard ! (Is R x (v ∷ [])) (λ is.
        use1 𝓛 (‵ (fat full_share (untied low.mir) b o v)) (𝓛.laws.at_raw full_share low.mir b o v) $
        use0 𝓛 (‵ (R.own_val x (v ∷ []))) (makes x (v ∷ []) is) $ move ! (1 ∷ 0 ∷ []) $ fjoin ! $
        fpack ! (List Val) (λ vs. fsep (cell_at full_share one vs b o) (R.own_val x vs)) (v ∷ []) $ done !)

    of_one : (x : R.Denot) (b o : ℕ) → ⟦ owned one x b o ⟧ ⊢ kept_at x b o
    unfolding part_of
    of_one x b o =
        let v : Val = low.lowered x in
        qed 𝓛 (‵ (owned one x b o) ∷ []) ∵ fpick ! (λ vs. fsplit ! $ move ! (1 ∷ []) $
        use1 𝓛 (raw (fact 𝓤 (Is R x vs))) (shows 𝓛 R x vs) $ heard ! (Is R x vs) (λ is.
        rewrite ! 0 (λ (us : List Val). ‵ (cell_at full_share one us b o)) (low.val_is x vs is) refl $
        use1 𝓛 (‵ (fat full_share low.mir b o v)) (𝓛.laws.raw_at full_share low.mir b o v) $
        by ! (noted (Is R x (v ∷ [])) (H.at full_share low.mir b o v) (subst (Is R x) (low.val_is x vs is) is))))

    pub to_mem : (x : R.Denot) (b o : ℕ) → kept_at x b o ⊢ ⟦ (mem R).own_at x b o ⟧
    to_mem x b o = subst (λ (τs : List Ty). kept_at x b o ⊢ ⟦ owned τs x b o ⟧) (sym low.layout_is) (in_one x b o)

    pub of_mem : (x : R.Denot) (b o : ℕ) → ⟦ (mem R).own_at x b o ⟧ ⊢ kept_at x b o
    of_mem x b o = subst (λ (τs : List Ty). ⟦ owned τs x b o ⟧ ⊢ kept_at x b o) (sym low.layout_is) (of_one x b o)

  -- ---- the lifetimes of a call are over
  abbrev pub deads : (n : ℕ) → Lfts n → Pr w
  deads zero κs = emp 𝓤
  deads (suc n) κs = A.dead κs.0 ∗ deads n κs.1

  deads_twice : (n : ℕ) (κs : Lfts n) → deads n κs ⊢ deads n κs ∗ deads n κs
  deads_twice zero κs = emp∗ 𝓤 (emp 𝓤)
  deads_twice (suc n) κs =
      qed 𝓛 (‵ (fdead κs.0) ∷ raw (deads n κs.1) ∷ []) ∵ use1 𝓛 (‵ (fdead κs.0) ⊛ ‵ (fdead κs.0)) (𝓛.lfts.dead_dup κs.0) $ split ! $
      move ! (2 ∷ []) $ use1 𝓛 (raw (deads n κs.1) ⊛ raw (deads n κs.1)) (deads_twice n κs.1) $ split ! $
      move ! (2 ∷ 0 ∷ []) $ join ! $ frame ! $ move ! (1 ∷ 0 ∷ []) $ done !

  pub over : (n j : ℕ) (ok : Within n j) (κs : Lfts n) → deads n κs ⊢ A.dead (lft_at n j ok κs)
  over zero j ok κs = absurd ok
  over (suc n) zero ok κs = fst∗ 𝓤 (A.dead κs.0) (deads n κs.1)
  over (suc n) (suc j) ok κs = via 𝓤 (deads n κs.1) (snd∗ 𝓤 (A.dead κs.0) (deads n κs.1)) (over n j ok κs.1)

  module _ (n : ℕ) (κs : Lfts n) where
    -- ---- one argument: what of it lies in memory before and after the call, and how it is lent and taken back
    pub record Passing (R : RattleType) (k : Kept) : Type 2 where
      pub Name : Type 0
      pub before : Pr w
      pub value : Name → R.Denot
      pub vals : List Val
      pub aside : Name → Pr w
      pub after : (g : Name) → Last (R.exit k) (value g) → Pr w
      -- what is known of it then
      pub known : (g : Name) → Last (R.exit k) (value g) → Type 0
      pub lends : before ⊢ H.⇛ (ex 𝓤 (λ (g : Name). ⟦ R.own_val (value g) vals ⟧ ∗ aside g))
      pub back : (g : Name) (l : Last (R.exit k) (value g)) → deads n κs ∗ (⟦ left (R.exit k) (value g) l ⟧ ∗ aside g) ⊢ H.⇛ (fact 𝓤 (known g l) ∗ after g l)

    -- a value that owns nothing
    unfoldable pub valued : (R : RattleType) (x : R.Denot) (vs : List Val) → emp 𝓤 ⊢ ⟦ R.own_val x vs ⟧ → Passing R yes
    valued R x vs owned = record {
      Name = Unit {0};
      before = emp 𝓤;
      value = λ _. x;
      vals = vs;
      aside = λ _. emp 𝓤;
      after = λ _ _. emp 𝓤;
      known = λ _ _. Unit {0};
      lends = qed 𝓛 [] ∵ updating ! $ at_once ! $ show ! (λ (_ : Unit {0}). ⟦ R.own_val x vs ⟧ ∗ emp 𝓤) tt $ use0 𝓛 (‵ (R.own_val x vs)) owned $ use0 𝓛 (‵ ftrue)
          (id⊢ 𝓤 (emp 𝓤)) $
          move ! (1 ∷ 0 ∷ []) $ done !;
      back = λ _ l. qed 𝓛 (raw (deads n κs) ∷ ‵ (left (R.exit yes) x l) ∷ ‵ ftrue ∷ []) ∵ updating ! $ at_once ! $ keep ! (2 ∷ []) $ by !
          (noted (Unit {0}) (emp 𝓤) tt);
    }

    module _ (j : ℕ) (ok : Within n j) (b : Buffer) (short : length b.bytes < 2 ^ 63) where
      abbrev κ : Lft
      κ = lft_at n j ok κs

      abbrev size : ℕ
      size = length b.bytes

      pub room : Room u8 size
      room = (lt_trans short (lit< tt), subst (λ (k : ℕ). k < 2 ^ 63) (sym (mul-one size)) short)

      abbrev part : Fml
      part = parts (mem u8) (shares u8) full_share b.bytes b.block b.offset

      unfoldable pub shared : Passing (ShrSlice (named j) κ u8) yes
      shared = record {
        Name = Unit {0};
        before = lies b;
        value = λ _. record { ref_ptr = (b.block, b.offset); now = b.bytes };
        vals = passed b ∷ [];
        aside = λ _. A.lent κ part;
        after = λ _ l. lies b;
        known = λ _ l. Unit {0};
        lends = qed 𝓛 (raw (lies b) ∷ []) ∵ updating ! $ use1 𝓛 (‵ part) (to_parts b.bytes b.block b.offset) $
            use1 𝓛 (later (‵ (elements_shared u8 b.bytes b.block b.offset κ) ⊛ ‵ (flent κ part)))
            (each_lends 𝓛 u8 (uint_Copied 𝓛 w8) full_share b.bytes b.block b.offset κ) $ await ! tt $ split ! $ at_once ! $
            show ! (λ (_ : Unit {0}). ⟦ (ShrSlice (named j) κ u8).own_val (record { ref_ptr = (b.block, b.offset); now = b.bytes }) (passed b ∷ []) ⟧ ∗ A.lent κ part) tt $
            pure_i ! (shr_slice_at u8 (record { ref_ptr = (b.block, b.offset); now = b.bytes }) (passed b ∷ [])) (tt, (tt, tt)) (refl, room) $ fjoin ! $ done !;
        back = λ _ l. qed 𝓛 (raw (deads n κs) ∷ ‵ ftrue ∷ ‵ (flent κ part) ∷ []) ∵ updating ! $ use1 𝓛 (‵ (fdead κ)) (over n j ok κs) $ move ! (0 ∷ 2 ∷ []) $
            lent_back ! tt $ at_once ! $ keep ! (0 ∷ []) $ by ! (via 𝓤 (lies b) (of_parts b.bytes b.block b.offset) (noted (Unit {0}) (lies b) tt));
      }

      unfoldable pub changed : Passing (MutSlice (named j) κ u8) yes
      changed = record {
        Name = GName;
        before = lies b;
        value = λ γ. record { ref_ptr = (b.block, b.offset); ghost_name = γ; now = b.bytes };
        vals = passed b ∷ [];
        aside = λ γ. A.lent κ (Held u8 size b.block b.offset γ);
        after = λ γ l. lies (with b l);
        known = λ γ l. length l ≡ size;
        lends = via 𝓤 ⟦ cells (mem u8) b.bytes b.block b.offset ⟧ (to_cells b.bytes b.block b.offset)
            (lends_slice 𝓛 u8 (named j) κ b.bytes b.block b.offset room);
        back = λ γ l. qed 𝓛 (raw (deads n κs) ∷ ‵ (fsep (fsep (finally u8 γ l) (feq ℕ (length l) size)) (fbor κ (Body (Arr (Holey (mem u8)) size) b.block b.offset γ))) ∷ ‵
            (flent κ (Held u8 size b.block b.offset γ)) ∷ []) ∵ updating ! $
            use1 𝓛 (‵ (fdead κ)) (over n j ok κs) $ move ! (1 ∷ []) $ fsplit ! $ fsplit ! $ move ! (3 ∷ 4 ∷ 0 ∷ []) $
            use3 𝓛 (later (‵ ((Arr (mem u8) size).own_at l b.block b.offset))) (slice_back 𝓛 u8 κ γ l size b.block b.offset) $ await ! tt $
            fsplit ! $ at_once ! $
            keep ! (0 ∷ 1 ∷ []) $ feq_l ! (λ e. by ! (via 𝓤 (lies (with b l)) (of_cells l b.block b.offset) (noted (length l ≡ size) (lies (with b l)) e)));
      }

    -- a value that lies in memory, and another one after the call
    module _ (j : ℕ) (ok : Within n j) (R : RattleType) (low : Lowered R) (makes : Makes 𝓛 R (Is R)) (x : R.Denot) (b o : ℕ) where
      abbrev κ' : Lft
      κ' = lft_at n j ok κs

      abbrev Borrowed : GName → Fml
      Borrowed γ = Body (mem R) b o γ

      unfoldable pub renewed : Passing (MutRef (named j) κ' R) yes
      renewed = record {
        Name = GName;
        before = kept_at R low makes x b o;
        value = λ γ. record { ref_ptr = (b, o); ghost_name = γ; now = x };
        vals = vptr b o ∷ [];
        aside = λ γ. A.lent κ' (Borrowed γ);
        after = λ γ y. kept_at R low makes y b o;
        known = λ γ y. Unit {0};
        lends = via 𝓤 ⟦ (mem R).own_at x b o ⟧ (to_mem R low makes x b o) (lends_ref 𝓛 R (named j) κ' x b o);
        back = λ γ y. qed 𝓛 (raw (deads n κs) ∷ ‵ (fsep (fres γ (R.coded.code y)) (fbor κ' (Borrowed γ))) ∷ ‵ (flent κ' (Borrowed γ)) ∷ []) ∵ updating ! $
            use1 𝓛 (‵ (fdead κ')) (over n j ok κs) $ move ! (1 ∷ []) $ fsplit ! $ move ! (2 ∷ 3 ∷ 0 ∷ []) $
            use3 𝓛 (later (‵ ((mem R).own_at y b o))) (ref_back 𝓛 R κ' γ y b o) $ await ! tt $ at_once ! $ keep ! (0 ∷ []) $
            by ! (via 𝓤 (kept_at R low makes y b o) (of_mem R low makes y b o) (noted (Unit {0}) (kept_at R low makes y b o) tt));
      }

    -- ---- all arguments
    abbrev pub Passings : (ss : List (Slot n)) → Kepts ss → Type 2
    Passings [] ks = Unit {2}
    Passings (s ∷ ss) ks = Passing (s.row κs) ks.0 × Passings ss ks.1

    abbrev pub Names : (ss : List (Slot n)) (ks : Kepts ss) → Passings ss ks → Type 0
    Names [] ks ps = Unit {0}
    Names (s ∷ ss) ks ps = ps.0.Name × Names ss ks.1 ps.1

    abbrev pub values : (ss : List (Slot n)) (ks : Kepts ss) (ps : Passings ss ks) → Names ss ks ps → Denots (types_at ss κs)
    values [] ks ps gs = tt
    values (s ∷ ss) ks ps gs = (ps.0.value gs.0, values ss ks.1 ps.1 gs.1)

    abbrev pub vals_of : (ss : List (Slot n)) (ks : Kepts ss) → Passings ss ks → Valss (types_at ss κs)
    vals_of [] ks ps = tt
    vals_of (s ∷ ss) ks ps = (ps.0.vals, vals_of ss ks.1 ps.1)

    abbrev pub befores : (ss : List (Slot n)) (ks : Kepts ss) → Passings ss ks → Pr w → Pr w
    befores [] ks ps F = F
    befores (s ∷ ss) ks ps F = ps.0.before ∗ befores ss ks.1 ps.1 F

    abbrev pub asides : (ss : List (Slot n)) (ks : Kepts ss) (ps : Passings ss ks) → Names ss ks ps → Pr w → Pr w
    asides [] ks ps gs F = F
    asides (s ∷ ss) ks ps gs F = ps.0.aside gs.0 ∗ asides ss ks.1 ps.1 gs.1 F

    abbrev pub afters : (ss : List (Slot n)) (ks : Kepts ss) (ps : Passings ss ks) (gs : Names ss ks ps) → Fins κs ss ks (values ss ks ps gs) → Pr w → Pr w
    afters [] ks ps gs ls F = F
    afters (s ∷ ss) ks ps gs ls F = ps.0.after gs.0 ls.0 ∗ afters ss ks.1 ps.1 gs.1 ls.1 F

    abbrev pub Knowns : (ss : List (Slot n)) (ks : Kepts ss) (ps : Passings ss ks) (gs : Names ss ks ps) → Fins κs ss ks (values ss ks ps gs) → Type 0
    Knowns [] ks ps gs ls = Unit {0}
    Knowns (s ∷ ss) ks ps gs ls = ps.0.known gs.0 ls.0 × Knowns ss ks.1 ps.1 gs.1 ls.1

    pub lend : (ss : List (Slot n)) (ks : Kepts ss) (ps : Passings ss ks) (F : Pr w)
        → befores ss ks ps F ⊢ H.⇛ (ex 𝓤 (λ (gs : Names ss ks ps). ⟦ owns (types_at ss κs) (values ss ks ps gs) (vals_of ss ks ps) ⟧ ∗ asides ss ks ps gs F))
    lend [] ks ps F = qed 𝓛 (raw F ∷ []) ∵ updating ! $ at_once ! $ show ! (λ (gs : Unit {0}). emp 𝓤 ∗ F) tt $ by ! (emp∗ 𝓤 F)
    lend (s ∷ ss) ks ps F =
        qed 𝓛 (raw ps.0.before ∷ raw (befores ss ks.1 ps.1 F) ∷ []) ∵ updating ! $
        use1 𝓛 (later (some (λ (g : ps.0.Name). ‵ ((s.row κs).own_val (ps.0.value g) ps.0.vals) ⊛ raw (ps.0.aside g)))) ps.0.lends $ await ! tt $
        pick ! (λ g. split ! $
        move ! (2 ∷ []) $ use1 𝓛
        (later (some (λ (gs : Names ss ks.1 ps.1). ‵ (owns (types_at ss κs) (values ss ks.1 ps.1 gs) (vals_of ss ks.1 ps.1)) ⊛ raw
        (asides ss ks.1 ps.1 gs F))))
        (lend ss ks.1 ps.1 F) $ await ! tt $ pick ! (λ gs. split ! $ at_once ! $
        show ! (λ (y : Names (s ∷ ss) ks ps). ⟦ owns (types_at (s ∷ ss) κs) (values (s ∷ ss) ks ps y) (vals_of (s ∷ ss) ks ps) ⟧ ∗ asides (s ∷ ss) ks ps y F)
        (g, gs) $
        move ! (2 ∷ 0 ∷ []) $ fjoin ! $ frame ! $ move ! (1 ∷ 0 ∷ []) $ done !))

    pub takes : (ss : List (Slot n)) (ks : Kepts ss) (ps : Passings ss ks) (gs : Names ss ks ps) (ls : Fins κs ss ks (values ss ks ps gs)) (F : Pr w)
        → deads n κs ∗ (⟦ lasts_of κs ss ks (values ss ks ps gs) ls ⟧ ∗ asides ss ks ps gs F) ⊢ H.⇛ (fact 𝓤 (Knowns ss ks ps gs ls) ∗ afters ss ks ps gs ls F)
    takes [] ks ps gs ls F = qed 𝓛 (raw (deads n κs) ∷ ‵ ftrue ∷ raw F ∷ []) ∵ updating ! $ at_once ! $ keep ! (2 ∷ []) $ by ! (noted (Unit {0}) F tt)
    takes (s ∷ ss) ks ps gs ls F =
        let first : Pr w = ps.0.after gs.0 ls.0 in
        let others : Pr w = afters ss ks.1 ps.1 gs.1 ls.1 F in
        let knows : Type 0 = Knowns ss ks.1 ps.1 gs.1 ls.1 in
        qed 𝓛 (raw (deads n κs) ∷ ‵ (lasts_of κs (s ∷ ss) ks (values (s ∷ ss) ks ps gs) ls) ∷ raw (ps.0.aside gs.0) ∷ raw
        (asides ss ks.1 ps.1 gs.1 F) ∷ []) ∵ updating ! $
        use1 𝓛 (raw (deads n κs) ⊛ raw (deads n κs)) (deads_twice n κs) $ split ! $ move ! (2 ∷ []) $ fsplit ! $
        -- [the first's last value; the others'; the lifetimes are over, twice; what is aside]
        move ! (2 ∷ 0 ∷ 4 ∷ []) $ use3 𝓛 (later (raw (fact 𝓤 (ps.0.known gs.0 ls.0)) ⊛ raw first)) (ps.0.back gs.0 ls.0) $ await ! tt $ split ! $
        heard ! (ps.0.known gs.0 ls.0) (λ p. move ! (2 ∷ 1 ∷ 3 ∷ []) $
        use3 𝓛 (later (raw (fact 𝓤 knows) ⊛ raw others)) (takes ss ks.1 ps.1 gs.1 ls.1 F) $ await ! tt $ split ! $ heard ! knows
        (λ q. at_once ! $ move ! (1 ∷ 0 ∷ []) $
        by ! (noted (Knowns (s ∷ ss) ks ps gs ls) (first ∗ others) (p, q))))
