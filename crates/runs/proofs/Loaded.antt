-- What lies in memory is what the machine loads from it, and a run leaves one thing there. Assumes nothing.
use mathlib.Core.Path.{◌≡◌, refl, sym, ◌∙◌, ap, ap₂, subst}
use mathlib.Core.Logic.{∥∥₁_elim}
use mathlib.Core.List.{List, [], ◌∷◌, ◌++◌, map}
use mathlib.Core.Option.{Option, none, some}
use Prim.Native.Nat.{ℕ, zero, suc, ◌+◌}
use native.Mathlib.Nat.{add-zero, suc_inj}
use native.Mathlib.Omega.{arith}
use lib.ListN.{length}
use base.Fraction.{full_share}
use mir.Syntax.{w8, ty_int}
use mir.Val.{Val, vunit, vint, as_int}
use base.Logic.{ent, sep, emp, via, emp∗, assoc', mono_r, fst∗, snd∗}
use base.Stored.{coded_val, coded_ℕ, coded×, coded_list, Coded-set}
use prog.Memory.{Memory, load_m}
use prog.Routine.{Routine, ends-one}
use prog.Wp.{run}
use prog.Model.{AllFit}
use contract.Monad.{fact, fact_i, fact_use, guard→fact}
use borrow.Fn.World.{World, Pr}
use Rattle.bits.specs.Bytes.{Bytes}
use Rattle.session.specs.declared.Session.{Session}
use Rattle.session.proofs.Session.TheLaws as session_value
use Rattle.runs.specs.Runs.{Buffer, size, passed, with, Place, pointer, holding, lie, stand}
use Rattle.runs.specs.CodeMeets.{Loads, Hold, Stand, Gives}

-- ---- a run ends in one way
loaded : Option Val → ℕ
loaded none = zero
loaded (some v) = as_int zero v (λ _ n. n)

loads_one : (σ : Memory) (b o : ℕ) (xs ys : List ℕ) → length xs ≡ length ys → Loads σ b o xs → Loads σ b o ys → xs ≡ ys
unfolding loaded
loads_one σ b o [] [] e h k = refl
loads_one σ b o [] (y ∷ ys) e h k = absurd (omega (arith, e))
loads_one σ b o (x ∷ xs) [] e h k = absurd (omega (arith, e))
loads_one σ b o (x ∷ xs) (y ∷ ys) e h k = ap₂ (λ (z : ℕ) (zs : List ℕ). z ∷ zs) (ap loaded (sym h.0 ∙ k.0))
    (loads_one σ b (o + 1) xs ys (suc_inj e) h.1 k.1)

hold_one : (σ : Memory) (bs : List Buffer) (cs ds : List (List ℕ)) → Hold σ bs cs → Hold σ bs ds → cs ≡ ds
hold_one σ [] [] [] h k = refl
hold_one σ [] [] (d ∷ ds) h k = absurd k
hold_one σ [] (c ∷ cs) ds h k = absurd h
hold_one σ (b ∷ bs) [] ds h k = absurd h
hold_one σ (b ∷ bs) (c ∷ cs) [] h k = absurd k
hold_one σ (b ∷ bs) (c ∷ cs) (d ∷ ds) h k =
    ap₂ (λ (z : List ℕ) (zs : List (List ℕ)). z ∷ zs) (loads_one σ b.block b.offset c d (h.0 ∙ sym k.0) h.1 k.1)
    (hold_one σ bs cs ds h.2 k.2)

-- the value loaded, and none where none is
value : Option Val → Val
value none = vunit
value (some v) = v

stand_one : (σ : Memory) (ps : List Place) (xs ys : List Session) → Stand σ ps xs → Stand σ ps ys → map session_value.lowered xs ≡ map session_value.lowered ys
unfolding value
stand_one σ [] [] [] h k = refl
stand_one σ [] [] (y ∷ ys) h k = absurd k
stand_one σ [] (x ∷ xs) ys h k = absurd h
stand_one σ (p ∷ ps) [] ys h k = absurd h
stand_one σ (p ∷ ps) (x ∷ xs) [] h k = absurd k
stand_one σ (p ∷ ps) (x ∷ xs) (y ∷ ys) h k = ap₂ (λ (v : Val) (vs : List Val). v ∷ vs) (ap value (sym h.0 ∙ k.0)) (stand_one σ ps xs ys h.1 k.1)

-- what is returned, and what is left in the places and in the buffers
abbrev pub Given : Type 0
Given = Val × (List Val × List (List ℕ))

pub gives_one : (code : Routine) (σ : Memory) (ps : List Place) (bs : List Buffer) (us : List Val) (u v : Val)
    (xs ys : List Session) (cs ds : List (List ℕ)) → Gives code σ ps bs us u xs cs → Gives code σ ps bs us v ys ds
    → ◌≡◌ {A = Given} (u, (map session_value.lowered xs, cs)) (v, (map session_value.lowered ys, ds))
gives_one code σ ps bs us u v xs ys cs ds g h =
    let vs : List Val = map pointer ps ++ (map passed bs ++ us) in
    let left : Given = (u, (map session_value.lowered xs, cs)) in
    let right : Given = (v, (map session_value.lowered ys, ds)) in
    let one : IsProp (left ≡ right) = Coded-set (coded× coded_val (coded× (coded_list coded_val) (coded_list (coded_list coded_ℕ)))) left right in
    ∥∥₁_elim g one (λ x.
    ∥∥₁_elim h one (λ y.
    let e : ◌≡◌ {A = Val × Memory} (u, x.1) (v, y.1) = ends-one code vs σ (u, x.1) (v, y.1) (x.0, x.2) (y.0, y.2) in
    let same : x.1 ≡ y.1 = ap (λ (z : Val × Memory). z.1) e in
    let stands : Stand y.1 ps xs = subst (λ (τ : Memory). Stand τ ps xs) same x.3 in
    let holds : Hold y.1 bs cs = subst (λ (τ : Memory). Hold τ bs cs) same x.4 in
    λ i. ((e i).0, (stand_one y.1 ps xs ys stands y.3 i, hold_one y.1 bs cs ds holds y.4 i))))

-- ---- what lies in memory is loaded from it
module _ (w : World) (σ : Memory) where
  open w use {𝓤, 𝓛, 𝓜}
  open 𝓛 use {H}

  abbrev mem : Pr w
  mem = 𝓜.mem σ

  pub loads_of : (xs : List ℕ) (b o : ℕ) → ent 𝓤 (sep 𝓤 mem (run 𝓤 H full_share w8 b o xs)) (fact 𝓤 (Loads σ b o xs))
  loads_of [] b o = fact_i 𝓤 (Unit {0}) _ tt
  loads_of (x ∷ xs) b o =
      let at : Pr w = H.at full_share (ty_int w8) b o (vint w8 x) in
      let rest : Pr w = run 𝓤 H full_share w8 b (o + 1) xs in
      let loads_it : Type 0 = load_m σ (ty_int w8) b o ≡ some (vint w8 x) in
      fact_use 𝓤 loads_it (via 𝓤 (sep 𝓤 mem at) (mono_r 𝓤 mem (fst∗ 𝓤 at rest)) (via 𝓤 _ (𝓜.at_load σ full_share (ty_int w8) b o (vint w8 x))
      (guard→fact 𝓤 loads_it (sep 𝓤 mem at)))) (λ p.
      fact_use 𝓤 (Loads σ b (o + 1) xs) (via 𝓤 (sep 𝓤 mem rest) (mono_r 𝓤 mem (snd∗ 𝓤 at rest)) (loads_of xs b (o + 1))) (λ q.
      fact_i 𝓤 (Loads σ b o (x ∷ xs)) _ (p, q)))

  pub holds_of : (b : Buffer) (c : List ℕ) (bs : List Buffer) (cs : List (List ℕ)) (P : Pr w) → length c ≡ size b → ent 𝓤 (sep 𝓤 mem P) (fact 𝓤 (Hold σ bs cs))
      → ent 𝓤 (sep 𝓤 mem (lie w (with b c ∷ []) P)) (fact 𝓤 (Hold σ (b ∷ bs) (c ∷ cs)))
  holds_of b c bs cs P e h =
      let bytes : Pr w = run 𝓤 H full_share w8 b.block b.offset c in
      fact_use 𝓤 (Loads σ b.block b.offset c) (via 𝓤 (sep 𝓤 mem bytes) (mono_r 𝓤 mem (fst∗ 𝓤 bytes P)) (loads_of c b.block b.offset)) (λ p.
      fact_use 𝓤 (Hold σ bs cs) (via 𝓤 (sep 𝓤 mem P) (mono_r 𝓤 mem (snd∗ 𝓤 bytes P)) h) (λ q.
      fact_i 𝓤 (Hold σ (b ∷ bs) (c ∷ cs)) _ (e, p, q)))

  -- the sessions, beside the bytes
  pub stands_of : (p : Place) (y : Session) (bs : List Buffer) (cs : List (List ℕ)) (P : Pr w) → ent 𝓤 (sep 𝓤 mem P) (fact 𝓤 (Hold σ bs cs))
      → ent 𝓤 (sep 𝓤 mem (stand w (holding p y ∷ []) P)) (fact 𝓤 (Stand σ (p ∷ []) (y ∷ []) × Hold σ bs cs))
  stands_of p y bs cs P h =
      let v : Val = session_value.lowered y in
      let at : Pr w = H.at full_share session_value.mir p.block p.offset v in
      let loads_it : Type 0 = load_m σ session_value.mir p.block p.offset ≡ some v in
      fact_use 𝓤 loads_it (via 𝓤 (sep 𝓤 mem at) (mono_r 𝓤 mem (fst∗ 𝓤 at P)) (via 𝓤 _ (𝓜.at_load σ full_share session_value.mir p.block p.offset v)
      (guard→fact 𝓤 loads_it (sep 𝓤 mem at)))) (λ l.
      fact_use 𝓤 (Hold σ bs cs) (via 𝓤 (sep 𝓤 mem P) (mono_r 𝓤 mem (snd∗ 𝓤 at P)) h) (λ q.
      fact_i 𝓤 (Stand σ (p ∷ []) (y ∷ []) × Hold σ bs cs) _ ((l, tt), q)))

  -- no session
  pub bytes_alone : (bs : List Buffer) (cs : List (List ℕ)) (P : Pr w) → ent 𝓤 (sep 𝓤 mem P) (fact 𝓤 (Hold σ bs cs)) → ent 𝓤 (sep 𝓤 mem P) (fact 𝓤 (Stand σ [] [] × Hold σ bs cs))
  bytes_alone bs cs P h = fact_use 𝓤 (Hold σ bs cs) h (λ q. fact_i 𝓤 (Stand σ [] [] × Hold σ bs cs) _ (tt, q))

  pub nothing : (P : Pr w) → ent 𝓤 (sep 𝓤 mem P) (fact 𝓤 (Hold σ [] []))
  nothing P = fact_i 𝓤 (Unit {0}) (sep 𝓤 mem P) tt

  -- bytes that lie end to end
  pub apart : (xs ys : List ℕ) (b o : ℕ) → ent 𝓤 (run 𝓤 H full_share w8 b o (xs ++ ys))
      (sep 𝓤 (run 𝓤 H full_share w8 b o xs) (run 𝓤 H full_share w8 b (o + length xs) ys))
  apart [] ys b o =
      subst (λ (k : ℕ). ent 𝓤 (run 𝓤 H full_share w8 b o ys) (sep 𝓤 (emp 𝓤) (run 𝓤 H full_share w8 b k ys))) (sym (add-zero o))
      (emp∗ 𝓤 (run 𝓤 H full_share w8 b o ys))
  apart (x ∷ xs) ys b o =
      let at : Pr w = H.at full_share (ty_int w8) b o (vint w8 x) in
      let some_of : Pr w = run 𝓤 H full_share w8 b (o + 1) xs in
      let e : o + 1 + length xs ≡ o + suc (length xs) = omega arith in
      subst (λ (k : ℕ). ent 𝓤 (run 𝓤 H full_share w8 b o (x ∷ xs ++ ys)) (sep 𝓤 (sep 𝓤 at some_of) (run 𝓤 H full_share w8 b k ys))) e
      (via 𝓤 (sep 𝓤 at (sep 𝓤 some_of (run 𝓤 H full_share w8 b (o + 1 + length xs) ys))) (mono_r 𝓤 at (apart xs ys b (o + 1)))
      (assoc' 𝓤 at some_of (run 𝓤 H full_share w8 b (o + 1 + length xs) ys)))

pub all_fit : (xs : List ℕ) → Bytes xs → AllFit w8 xs
all_fit [] b = tt
all_fit (x ∷ xs) b = (record { fits = b 0 }, all_fit xs (λ i. b (suc i)))

pub fit_both : (xs ys : List ℕ) → AllFit w8 xs → AllFit w8 ys → AllFit w8 (xs ++ ys)
fit_both [] ys f g = g
fit_both (x ∷ xs) ys f g = (f.0, fit_both xs ys f.1 g)
