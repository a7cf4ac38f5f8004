-- A session that fits its words has a value, and no other; no other lies in memory; and every choice has a value. Assumes nothing.
use mathlib.Core.Path.{◌≡◌, refl, ap, subst}
use mathlib.Core.Bool.{Bool, true, false}
use mathlib.Core.List.{List, [], ◌∷◌, map}
use Prim.Native.Nat.{ℕ, zero, suc, ◌≤◌, ◌<◌, ◌^◌}
use native.Mathlib.Omega.{arith}
use lib.Dec.{T, lit<}
use lib.Ieee.Fits.{and_l, and_r}
use lib.ListN.{length}
use native.Mathlib.Bridge.{le_prop}
use base.Stored.{coded_ℕ, Coded-set}
use mir.Syntax.{Width, w8, w16, w32, Ty, ty_int, ty_array}
use mir.Val.{Val, bits, vbool, vint, has_ty, WT, WTs, of_list}
use denote.Plain.{UInt, Boolean}
use denote.Array.{Array, each, array_val}
use denote.Shadow.{shadow}
use denote.Builtin.{u32}
use denote.Laws.{Is}
use denote.Steps.{only}
use borrow.Fn.World.{w₀}
use denote.Struct.Field.{u32-field}
use denote.Struct.Laws.{u32-laws, u32-copy, owes}
use denote.Param.Laws.{Laws, Told, of_field, field_told}
use denote.Param.Shared.{copy_shared}
use denote.Enum.Laws as enum
use Rattle.std.specs.contracts.option.Option as option_type
use Rattle.std.proofs.option.Option.TheLaws as option_value
use Rattle.bits.specs.Fields.{bit, Fit}
use Rattle.blocks.specs.declared.Blocks.{Blocks}
use Rattle.consist.specs.declared.Consist.{Consist}
use Rattle.consist.specs.Consist.{fields_of}
use Rattle.brake.specs.Brake.{brake_told}
use Rattle.learn.specs.Stage.{stage_number, learner_told}
use Rattle.blocks.specs.Blocks.{most}
use Rattle.blocks.specs.contracts.Blocks as blocks_type
use Rattle.blocks.proofs.Blocks.TheLaws as blocks_value
use Rattle.consist.specs.contracts.Consist as consist_type
use Rattle.consist.proofs.Consist.TheLaws as consist_value
use Rattle.brake.specs.declared.State.{State}
use Rattle.brake.specs.declared.State.TheVariants.{Charged, ApplyingService, HoldingService, ApplyingEmergency, HoldingEmergency, Charging}
use Rattle.brake.specs.declared.Choice.{Choice}
use Rattle.brake.specs.declared.Choice.TheVariants.{FiveSeconds, Everlasting}
use Rattle.brake.specs.Rear.{Heard}
use Rattle.brake.specs.Rear.{Never, At}
use Rattle.brake.specs.State.{state_number}
use Rattle.brake.specs.Rear.{choice_number, heard_number}
use Rattle.brake.specs.contracts.Choice as choice_type
use Rattle.brake.proofs.Choice.TheLaws as choice_value
use Rattle.brake.specs.contracts.State as state_type
use Rattle.brake.proofs.State.TheLaws as state_value
use Rattle.brake.specs.contracts.Brake as brake_type
use Rattle.brake.proofs.Brake.TheLaws as brake_value
use Rattle.trend.specs.contracts.Sums as sums_type
use Rattle.trend.proofs.Sums.TheLaws as sums_value
use Rattle.learn.specs.declared.Stage.{Stage}
use Rattle.learn.specs.declared.Stage.TheVariants.{Waiting, FrontFell, Initial, Falling, Done}
use Rattle.learn.specs.contracts.Stage as stage_type
use Rattle.learn.proofs.Stage.TheLaws as stage_value
use Rattle.learn.specs.contracts.Learner as learner_type
use Rattle.learn.proofs.Learner.TheLaws as learner_value
use Rattle.session.specs.declared.Session.{Session}
use Rattle.session.specs.contracts.Session as session_type
use Rattle.session.proofs.Session.TheLaws as session_value
use Rattle.demands.specs.Program.{Words, FitsBlocks, FitsWords}

state_is : (s : State) → Is state_type.the_row s (enum.vals state_type.the_type state_value.the_laws s)
state_is Charged = enum.owes state_type.the_type state_value.the_laws Charged tt
state_is ApplyingService = enum.owes state_type.the_type state_value.the_laws ApplyingService tt
state_is HoldingService = enum.owes state_type.the_type state_value.the_laws HoldingService tt
state_is ApplyingEmergency = enum.owes state_type.the_type state_value.the_laws ApplyingEmergency tt
state_is HoldingEmergency = enum.owes state_type.the_type state_value.the_laws HoldingEmergency tt
state_is Charging = enum.owes state_type.the_type state_value.the_laws Charging tt

stage_is : (s : Stage) → Is stage_type.the_row s (enum.vals stage_type.the_type stage_value.the_laws s)
stage_is Waiting = enum.owes stage_type.the_type stage_value.the_laws Waiting tt
stage_is FrontFell = enum.owes stage_type.the_type stage_value.the_laws FrontFell tt
stage_is Initial = enum.owes stage_type.the_type stage_value.the_laws Initial tt
stage_is Falling = enum.owes stage_type.the_type stage_value.the_laws Falling tt
stage_is Done = enum.owes stage_type.the_type stage_value.the_laws Done tt

choice_held : (choice : Choice) → Is choice_type.the_row choice (enum.vals choice_type.the_type choice_value.the_laws choice)
choice_held FiveSeconds = enum.owes choice_type.the_type choice_value.the_laws FiveSeconds tt
choice_held Everlasting = enum.owes choice_type.the_type choice_value.the_laws Everlasting tt

pub choice_is : (choice : Choice) → Is choice_type.the_row choice (choice_value.lowered choice ∷ [])
choice_is choice =
    let is = choice_held choice in
    subst (λ (us : List Val). Is choice_type.the_row choice us) ((choice_value.lowers).val_is choice _ is) is

-- a pair, and so a tuple that is nested to the right
abbrev ◌⨾◌ : {A B : Type 0} → A → B → A × B
a ⨾ b = (a, b)

infixr 4 ◌⨾◌
uint : (w : Width) {n : ℕ} → n < 2 ^ bits w → Is (UInt w) n (vint w n ∷ [])
uint w h = (refl, h)

bool : (b : Bool) → Is Boolean b (vbool b ∷ [])
bool b = refl

abbrev end : Unit {0}
end = tt

-- ---- when the rear was last present, as an Option
abbrev seconds_laws : Laws u32
seconds_laws = of_field u32-field u32-laws refl (copy_shared u32-field u32-copy)

abbrev seconds_told : Told u32
seconds_told = field_told u32-field u32-laws

abbrev pub heard_value : Heard → Val
heard_value = option_value.lowered u32 seconds_laws seconds_told

heard_is : (heard : Heard) → heard_number heard ≤ 2 ^ 32
    → Is (option_type.the_row u32) heard (enum.vals (option_type.the_type u32) (option_value.the_laws u32 seconds_laws seconds_told) heard)
heard_is Never h = enum.owes (option_type.the_type u32) (option_value.the_laws u32 seconds_laws seconds_told) Never tt
heard_is (At time) h = enum.owes (option_type.the_type u32) (option_value.the_laws u32 seconds_laws seconds_told) (At time) (uint w32 h ⨾ end)

-- an array's value is that of its numbers, place by place
abbrev pub numbers : List ℕ → List Val
numbers ns = map (λ (n : ℕ). vint w16 n) ns

elements_are : (ns : List ℕ) → Words 16 ns → shadow (each ℕ (UInt w16).own_val ns (numbers ns))
elements_are [] f = tt
elements_are (n ∷ ns) f = (uint w16 f.0, elements_are ns f.1)

array_is : (k : ℕ) (ns : List ℕ) → length ns ≡ k → Words 16 ns → Is (Array (UInt w16) k) ns (array_val (numbers ns) ∷ [])
array_is k ns l f = (numbers ns, ((refl, l), elements_are ns f))

pub session_is : (x : Session) → FitsWords x → Is session_type.the_row x (session_value.lowered x ∷ [])
session_is x f =
    let (c₀, (c₁, (c₂, (c₃, (c₄, (c₅, (c₆, (c₇, (c₈, _))))))))) = f.0 in
    let b = x.consist.blocks in
    let g = f.6 in
    let blocks = owes blocks_type.the_type blocks_value.the_laws b
    (uint w8 g.count ⨾ array_is most b.lengths g.lengths_places g.lengths ⨾ array_is most b.weights g.weights_places g.weights ⨾ end) in
    let (_, (k₁, (k₂, (k₃, (k₄, (k₅, (k₆, (k₇, (k₈, _))))))))) = f.1 in
    let consist = uint w16 c₀ ⨾ uint w16 c₁ ⨾ uint w16 c₂ ⨾ uint w16 c₃ ⨾ uint w32 c₄ ⨾ uint w32 c₅ ⨾ uint w16 c₆ ⨾ uint w16 c₇ ⨾ uint w16 c₈ ⨾ blocks ⨾ end in
    let brake = uint w16 k₁ ⨾ uint w16 k₂ ⨾ uint w16 k₃ ⨾ uint w16 k₄ ⨾ uint w16 k₅ ⨾ uint w16 k₆ ⨾ uint w16 k₇ ⨾ uint w32 k₈ ⨾ bool x.brake.sampled ⨾ choice_held x.brake.choice ⨾ heard_is x.brake.heard f.2 ⨾ end in
    let (_, (l₁, (l₂, (l₃, (l₄, (s₀, (s₁, (s₂, (s₃, (s₄, _)))))))))) = f.3 in
    let sums = owes sums_type.the_type sums_value.the_laws x.learner.sums (uint w16 s₀ ⨾ uint w32 s₁ ⨾ uint w32 s₂ ⨾ uint w32 s₃ ⨾ uint w32 s₄ ⨾ end) in
    let learner = stage_is x.learner.stage ⨾ uint w32 l₁ ⨾ uint w16 l₂ ⨾ uint w16 l₃ ⨾ uint w16 l₄ ⨾ sums ⨾ end in
    let fields = bool x.opened ⨾ owes consist_type.the_type consist_value.the_laws x.consist consist
    ⨾ owes brake_type.the_type brake_value.the_laws x.brake (state_is x.brake.state, brake)
    ⨾ owes learner_type.the_type learner_value.the_laws x.learner learner ⨾ uint w8 f.4 ⨾ uint w8 f.5 ⨾ end in
    let is = owes session_type.the_type session_value.the_laws x fields in
    subst (λ (us : List Val). Is session_type.the_row x us) ((session_value.lowers).val_is x _ is) is

state_fits : (s : State) → state_number s < 2 ^ 8
state_fits Charged = lit< tt
state_fits ApplyingService = lit< tt
state_fits HoldingService = lit< tt
state_fits ApplyingEmergency = lit< tt
state_fits HoldingEmergency = lit< tt
state_fits Charging = lit< tt

stage_fits : (s : Stage) → stage_number s < 2 ^ 8
stage_fits Waiting = lit< tt
stage_fits FrontFell = lit< tt
stage_fits Initial = lit< tt
stage_fits Falling = lit< tt
stage_fits Done = lit< tt

bit_fits : (b : Bool) → bit b < 2 ^ 1
bit_fits false = lit< tt
bit_fits true = lit< tt

choice_fits : (choice : Choice) → choice_number choice < 2 ^ 1
choice_fits FiveSeconds = lit< tt
choice_fits Everlasting = lit< tt

heard_most : (heard : Heard) → WT (heard_value heard) → heard_number heard ≤ 2 ^ 32
heard_most Never w = omega arith
heard_most (At time) w = w.1.0.fits

heard_fits : (heard : Heard) → WT (heard_value heard) → heard_number heard < 2 ^ 33
heard_fits heard w = omega (arith, heard_most heard w)

words_fit : (ns : List ℕ) → WTs (of_list (numbers ns)) → Words 16 ns
words_fit [] w = tt
words_fit (n ∷ ns) w = (w.0.fits, words_fit ns w.1)

places : (τ : Ty) (k : ℕ) (ns : List ℕ) → T (has_ty (ty_array τ k) (array_val (numbers ns))) → length ns ≡ k
places τ zero [] h = refl
places τ zero (n ∷ ns) h = absurd h
places τ (suc k) [] h = absurd h
places τ (suc k) (n ∷ ns) h = ap suc (places τ k ns (and_r (has_ty τ (vint w16 n)) _ h))

consist_places : (c : Consist) → T (has_ty consist_value.mir (consist_value.lowered c)) → (length c.blocks.lengths ≡ most) × (length c.blocks.weights ≡ most)
consist_places c h =
    let b = c.blocks in
    let arrays : T (has_ty blocks_value.mir (blocks_value.lowered b)) = and_l _ true h in
    (places (ty_int w16) most b.lengths (and_l _ _ arrays), places (ty_int w16) most b.weights (and_l _ true (and_r _ _ arrays)))

-- what lies in memory fits its words
pub typed_fits : (x : Session) → T (has_ty session_value.mir (session_value.lowered x)) → WT (session_value.lowered x) → FitsWords x
typed_fits x h w =
    let (_, (consist, (brake, (learner, (cause, (emergency, _)))))) = w in
    let (c₀, (c₁, (c₂, (c₃, (c₄, (c₅, (c₆, (c₇, (c₈, (blocks, _)))))))))) = consist in
    let (n, (lengths, (weights, _))) = blocks in
    let (_, (k₁, (k₂, (k₃, (k₄, (k₅, (k₆, (k₇, (k₈, (_, (_, (heard, _)))))))))))) = brake in
    let (_, (l₁, (l₂, (l₃, (l₄, (sums, _)))))) = learner in
    let (s₀, (s₁, (s₂, (s₃, (s₄, _))))) = sums in
    let b = x.consist.blocks in
    let held = consist_places x.consist (and_l (has_ty consist_value.mir (consist_value.lowered x.consist)) _ h) in (
      c₀.fits ⨾ c₁.fits ⨾ c₂.fits ⨾ c₃.fits ⨾ c₄.fits ⨾ c₅.fits ⨾ c₆.fits ⨾ c₇.fits ⨾ c₈.fits ⨾ tt,
      state_fits x.brake.state ⨾ k₁.fits ⨾ k₂.fits ⨾ k₃.fits ⨾ k₄.fits ⨾ k₅.fits ⨾ k₆.fits ⨾ k₇.fits ⨾ k₈.fits ⨾ bit_fits x.brake.sampled ⨾ choice_fits x.brake.choice ⨾ heard_fits x.brake.heard heard ⨾ tt,
      heard_most x.brake.heard heard,
      stage_fits x.learner.stage ⨾ l₁.fits ⨾ l₂.fits ⨾ l₃.fits ⨾ l₄.fits ⨾ s₀.fits ⨾ s₁.fits ⨾ s₂.fits ⨾ s₃.fits ⨾ s₄.fits ⨾ tt,
      cause.fits,
      emergency.fits,
      record {
        count = n.fits;
        lengths_places = held.0;
        lengths = words_fit b.lengths lengths;
        weights_places = held.1;
        weights = words_fit b.weights weights;
      },
    )

-- so does what has a value
pub session_fits : (x : Session) (v : Val) → Is session_type.the_row x (v ∷ []) → FitsWords x
session_fits x v is =
    let typed = ((session_value.the_row_laws).lawful w₀.𝓛).typed x (v ∷ []) is in
    let one : v ≡ session_value.lowered x = ap only ((session_value.lowers).val_is x (v ∷ []) is) in
    typed_fits x (subst (λ (u : Val). T (has_ty session_value.mir u)) one typed.0.0) (subst WT one typed.0.1)

-- ---- and in one way
fit_one : (ws ns : List ℕ) → IsProp (Fit ws ns)
fit_one [] [] = λ f g i. tt
fit_one [] (n ∷ ns) = λ f g. absurd f
fit_one (w ∷ ws) [] = λ f g. absurd f
fit_one (w ∷ ws) (n ∷ ns) = λ f g i. (le_prop f.0 g.0 i, fit_one ws ns f.1 g.1 i)

words_one : (w : ℕ) (ns : List ℕ) → IsProp (Words w ns)
words_one w [] = λ f g i. tt
words_one w (n ∷ ns) = λ f g i. (le_prop f.0 g.0 i, words_one w ns f.1 g.1 i)

blocks_one : (b : Blocks) → IsProp (FitsBlocks b)
blocks_one b = λ f g i. record {
  count = le_prop f.count g.count i;
  lengths_places = Coded-set coded_ℕ (length b.lengths) most f.lengths_places g.lengths_places i;
  lengths = words_one 16 b.lengths f.lengths g.lengths i;
  weights_places = Coded-set coded_ℕ (length b.weights) most f.weights_places g.weights_places i;
  weights = words_one 16 b.weights f.weights g.weights i;
}

pub fits_one : (x : Session) → IsProp (FitsWords x)
fits_one x = λ f g i. (
  fit_one (16 ∷ 16 ∷ 16 ∷ 16 ∷ 32 ∷ 32 ∷ 16 ∷ 16 ∷ 16 ∷ []) (fields_of x.consist) f.0 g.0 i,
  fit_one (8 ∷ 16 ∷ 16 ∷ 16 ∷ 16 ∷ 16 ∷ 16 ∷ 16 ∷ 32 ∷ 1 ∷ 1 ∷ 33 ∷ []) (brake_told x.brake) f.1 g.1 i,
  le_prop f.2 g.2 i,
  fit_one (8 ∷ 32 ∷ 16 ∷ 16 ∷ 16 ∷ 16 ∷ 32 ∷ 32 ∷ 32 ∷ 32 ∷ []) (learner_told x.learner) f.3 g.3 i,
  le_prop f.4 g.4 i,
  le_prop f.5 g.5 i,
  blocks_one x.consist.blocks f.6 g.6 i,
)
