-- What a session's value and a verdict's are to the machine, read back. Assumes nothing.
use mathlib.Core.Path.{◌≡◌, refl, ◌∙◌, ap, ap₂}
use mathlib.Core.Bool.{Bool, false}
use mathlib.Core.List.{List, [], ◌∷◌}
use Prim.Native.Nat.{ℕ, zero, suc}
use lib.ListN.{get_or}
use mir.Val.{Val, Vals, vnil, vcons, vunit, vbool, vint, vfloat, vptr, vcode, vstruct, as_int, as_bool}
use mir.Fields.{get_v}
use denote.Array.{array_val}
use denote.Laws.{Is, Tells}
use denote.Struct.Field.{unit-field}
use denote.Struct.Laws.{unit-laws, unit-copy}
use denote.Param.Laws.{Laws, Told, of_field, field_told}
use denote.Param.Shared.{copy_shared}
use denote.Builtin.{unit}
use Rattle.std.proofs.result.Result.TheLaws as laws
use Rattle.bits.specs.Fields.{bit}
use Rattle.refusal.specs.declared.Refusal.{Refusal}
use Rattle.refusal.specs.declared.Refusal.TheVariants.{NoSession, WrongLength, WrongMark, OutOfRange, TooLight, BrokenProfile, BrokenTargets, BadReading, WrongTime, NotCovered, NoRoom, BrokenBlocks}
use Rattle.refusal.specs.Verdict.{Verdict, Accepted, Refused}
use Rattle.refusal.specs.Number.{number_of, number_of_verdict}
use Rattle.refusal.specs.contracts.Refusal as refusal_type
use Rattle.refusal.proofs.Refusal.TheLaws as refusal_value
use Rattle.consist.specs.declared.Consist.{Consist}
use Rattle.brake.specs.declared.State.{State}
use Rattle.brake.specs.declared.State.TheVariants.{Charged, ApplyingService, HoldingService, ApplyingEmergency, HoldingEmergency, Charging}
use Rattle.brake.specs.declared.Choice.{Choice}
use Rattle.brake.specs.declared.Choice.TheVariants.{FiveSeconds, Everlasting}
use Rattle.brake.specs.Rear.{Heard}
use Rattle.brake.specs.Rear.{Never, At}
use Rattle.brake.specs.State.{state_number}
use Rattle.brake.specs.Rear.{choice_number, heard_number}
use Rattle.brake.proofs.Choice.TheLaws as choice_value
use Rattle.brake.proofs.State.TheLaws as state_value
use Rattle.learn.specs.declared.Stage.{Stage}
use Rattle.learn.specs.declared.Stage.TheVariants.{Waiting, FrontFell, Initial, Falling, Done}
use Rattle.learn.specs.Stage.{stage_number}
use Rattle.learn.proofs.Stage.TheLaws as stage_value
use Rattle.session.specs.declared.Session.{Session}
use Rattle.session.specs.Session as session
use Rattle.session.specs.Session.{session_told, answer, answer_told}
use Rattle.session.proofs.Session.TheLaws as session_value
use Rattle.demands.specs.Demand1.{table_numbers}
use Rattle.runs.specs.Runs.{verdict_row}
use Rattle.runs.specs.CodeMeets.{verdict_value}
use Rattle.runs.proofs.SessionFits.{numbers, heard_value}

unfoldable pub number : Val → ℕ
number v = as_int zero v (λ _ n. n)

part : Val → ℕ → Val
part vunit i = vunit
part (vbool b) i = vunit
part (vint w n) i = vunit
part (vfloat f x) i = vunit
part (vptr b o) i = vunit
part (vcode s) i = vunit
part (vstruct vs) i = get_v vs i

-- the numbers of an array's value
numbers_in : Vals → List ℕ
numbers_in vnil = []
numbers_in (vcons v vs) = number v ∷ numbers_in vs

array_in : Val → List ℕ
array_in vunit = []
array_in (vbool b) = []
array_in (vint w n) = []
array_in (vfloat f x) = []
array_in (vptr b o) = []
array_in (vcode s) = []
array_in (vstruct vs) = numbers_in vs

array_read : (ns : List ℕ) → array_in (array_val (numbers ns)) ≡ ns
unfolding number numbers_in array_in
array_read [] = refl
array_read (n ∷ ns) = ap (λ (ms : List ℕ). n ∷ ms) (array_read ns)

truth : Val → Bool
truth v = as_bool false v (λ b. b)

-- the number of the refusal at this place of the enum
number_at : ℕ → ℕ
number_at place = get_or table_numbers place zero

verdict_in : Val → ℕ
verdict_in v = verdict_of (number (part v 0)) (number_at (number (part (part v 1) 0)))
  where
    verdict_of : ℕ → ℕ → ℕ
    verdict_of zero n = zero
    verdict_of (suc k) n = n

-- when the rear was last present: the variant's place, and of the second one its time
heard_in : Val → ℕ
heard_in v = at (number (part v 0)) (number (part v 1))
  where
    at : ℕ → ℕ → ℕ
    at zero n = zero
    at (suc k) n = suc n

pub session_in : Val → session.Told
session_in v =
    let c : ℕ → ℕ = λ i. number (part (part v 1) i) in
    let b : Val = part (part v 1) 9 in
    let k : ℕ → ℕ = λ i. number (part (part v 2) i) in
    let l : ℕ → ℕ = λ i. number (part (part v 3) i) in
    let s : ℕ → ℕ = λ i. number (part (part (part v 3) 5) i) in (
      truth (part v 0),
      record {
        cars = c 0;
        axles = c 1;
        weight = c 2;
        length = c 3;
        rated = c 4;
        application = c 5;
        recharge = c 6;
        set = c 7;
        offset = c 8;
        blocks = record { count = number (part b 0); lengths = array_in (part b 1); weights = array_in (part b 2) };
      },
      number (part (part (part v 2) 0) 0) ∷ k 1 ∷ k 2 ∷ k 3 ∷ k 4 ∷ k 5 ∷ k 6 ∷ k 7 ∷ k 8 ∷ bit (truth (part (part v 2) 9)) ∷ number (part (part (part v 2) 10) 0) ∷ heard_in (part (part v 2) 11) ∷ [],
      number (part (part (part v 3) 0) 0) ∷ l 1 ∷ l 2 ∷ l 3 ∷ l 4 ∷ s 0 ∷ s 1 ∷ s 2 ∷ s 3 ∷ s 4 ∷ [],
      number (part v 4),
      number (part v 5),
    )

-- a consist with as many blocks, of these lengths and weights
abbrev with_lists : Consist → (lengths weights : List ℕ) → Consist
with_lists c lengths weights = record {
  cars = c.cars;
  axles = c.axles;
  weight = c.weight;
  length = c.length;
  rated = c.rated;
  application = c.application;
  recharge = c.recharge;
  set = c.set;
  offset = c.offset;
  blocks = record { count = c.blocks.count; lengths = lengths; weights = weights };
}

pub session_read : (x : Session) → session_in (session_value.lowered x) ≡ session_told x
unfolding part number truth heard_in session_in
session_read x =
    let k = x.brake in
    let l = x.learner in
    let s = l.sums in
    let told : ℕ → ℕ → ℕ → ℕ → List ℕ → List ℕ → session.Told = λ n c h g ls ws. (
      x.opened,
      with_lists x.consist ls ws,
      n ∷ k.hold ∷ k.a ∷ k.b ∷ k.equalization ∷ k.fall ∷ k.last_front ∷ k.last_rear ∷ k.last_time ∷ bit k.sampled ∷ c ∷ h ∷ [],
      g ∷ l.since ∷ l.init ∷ l.last ∷ l.pressure ∷ s.count ∷ s.times ∷ s.squares ∷ s.pressures ∷ s.products ∷ [],
      x.cause,
      x.emergency,
    ) in
    (λ i. told (state_read k.state i) (choice_read k.choice i) (heard_read k.heard i) (stage_read l.stage i) (array_read x.consist.blocks.lengths i) (array_read x.consist.blocks.weights i))
  where
    state_read : (s : State) → number (part (state_value.lowered s) 0) ≡ state_number s
    state_read Charged = refl
    state_read ApplyingService = refl
    state_read HoldingService = refl
    state_read ApplyingEmergency = refl
    state_read HoldingEmergency = refl
    state_read Charging = refl

    stage_read : (s : Stage) → number (part (stage_value.lowered s) 0) ≡ stage_number s
    stage_read Waiting = refl
    stage_read FrontFell = refl
    stage_read Initial = refl
    stage_read Falling = refl
    stage_read Done = refl

    choice_read : (choice : Choice) → number (part (choice_value.lowered choice) 0) ≡ choice_number choice
    choice_read FiveSeconds = refl
    choice_read Everlasting = refl

    heard_read : (heard : Heard) → heard_in (heard_value heard) ≡ heard_number heard
    heard_read Never = refl
    heard_read (At time) = refl

verdict_read : (v : Verdict) → verdict_in (verdict_value v) ≡ number_of_verdict v
unfolding part number number_at verdict_in
verdict_read Accepted = refl
verdict_read (Refused r) = refusal_read r
  where
    refusal_read : (r : Refusal) → number_at (number (part (refusal_value.lowered r) 0)) ≡ number_of r
    refusal_read NoSession = refl
    refusal_read WrongLength = refl
    refusal_read WrongMark = refl
    refusal_read OutOfRange = refl
    refusal_read TooLight = refl
    refusal_read BrokenProfile = refl
    refusal_read BrokenTargets = refl
    refusal_read BadReading = refl
    refusal_read WrongTime = refl
    refusal_read NotCovered = refl
    refusal_read NoRoom = refl
    refusal_read BrokenBlocks = refl

-- a verdict has this value, and no other
pub verdict_is : Tells verdict_row (Is verdict_row) (λ v. verdict_value v ∷ [])
verdict_is v us is = (laws.lowers unit refusal_type.the_row unit_law refusal_value.the_row_laws unit_told refusal_told).val_is v us is ∙ ap (λ (u : Val). u ∷ []) (same v)
  where
    unit_law : Laws unit
    unit_law = of_field unit-field unit-laws refl (copy_shared unit-field unit-copy)

    unit_told : Told unit
    unit_told = field_told unit-field unit-laws

    refusal_told : Told refusal_type.the_row
    refusal_told = record { val = refusal_value.lowered; tells = (refusal_value.lowers).val_is }

    same : (v : Verdict) → laws.lowered unit refusal_type.the_row unit_law refusal_value.the_row_laws unit_told refusal_told v ≡ verdict_value v
    same Accepted = refl
    same (Refused r) = refl

-- what is told of an answer, of its two values
pub answer_in : Val × Val → ℕ × session.Told
answer_in k = (verdict_in k.0, session_in k.1)

pub answer_read : (v : Verdict) (x : Session) → answer_in (verdict_value v, session_value.lowered x) ≡ answer_told (answer x v)
unfolding part answer_in
answer_read v x = ap₂ (λ (n : ℕ) (t : session.Told). (n, t)) (verdict_read v) (session_read x)
