-- What is told tells the answer: no two answers are told alike. Assumes nothing.
use mathlib.Core.Path.{◌≡◌, refl, sym, ap, ap₂, ◌∙◌}
use mathlib.Core.List.{List}
use Prim.Native.Nat.{ℕ}
use Rattle.std.specs.Prelude.{Result}
use Rattle.refusal.specs.declared.Refusal.{Refusal}
use Rattle.refusal.specs.Number.{told, answer_of}
use Rattle.refusal.specs.Verdict.{Verdict}
use Rattle.refusal.proofs.Numbers.{told_one}
use Rattle.sample.specs.declared.Rear.{Rear}
use Rattle.sample.specs.declared.Rear.TheVariants.{Present, Lost}
use Rattle.sample.specs.declared.RawSample.{RawSample}
use Rattle.sample.specs.declared.RearPressure.{RearPressure}
use Rattle.sample.specs.declared.RearPressure.TheVariants as pressure
use Rattle.sample.specs.declared.Sample.{Sample}
use Rattle.sample.specs.Sample.{none, no_sample, rear_told, raw_told, answer_told, pressure_told, sample_told, judged_told}

-- present and lost differ in their values
value : {A : Type 0} {x y : ℕ × List A} → x ≡ y → x.1 ≡ y.1
value h i = (h i).1

pub rear_one : (x y : Rear) → rear_told x ≡ rear_told y → x ≡ y
rear_one (Present x) (Present y) h = let e = value h in cc
rear_one (Present x) Lost h = let e = value h in cc
rear_one Lost (Present y) h = let e = value h in cc
rear_one Lost Lost h = refl

pub raw_one : (x y : RawSample) → raw_told x ≡ raw_told y → x ≡ y
raw_one x y h i = record { time = (h i).0; head = (h i).1; speed = (h i).2; front = (h i).3; rear = rear_one x.rear y.rear (λ j. (h j).4) i }

pub pressure_one : (x y : RearPressure) → pressure_told x ≡ pressure_told y → x ≡ y
pressure_one (pressure.Present x) (pressure.Present y) h = let e = value h in cc
pressure_one (pressure.Present x) pressure.Lost h = let e = value h in cc
pressure_one pressure.Lost (pressure.Present y) h = let e = value h in cc
pressure_one pressure.Lost pressure.Lost h = refl

pub sample_one : (x y : Sample) → sample_told x ≡ sample_told y → x ≡ y
sample_one x y h i = record { time = (h i).0; head = (h i).1; speed = (h i).2; front = (h i).3; rear = pressure_one x.rear y.rear (λ j. (h j).4) i }

-- the same beside a verdict
both_one : {A B : Type 0} (tell : A → B) (one : (x y : A) → tell x ≡ tell y → x ≡ y) (x y : Verdict × A)
    → told (x.0, tell x.1) ≡ told (y.0, tell y.1) → x ≡ y
both_one {A} {B} tell one x y h =
    let e = told_one (x.0, tell x.1) (y.0, tell y.1) h in
    ap₂ (λ (v : Verdict) (a : A). (v, a)) (λ i. (e i).0) (one x.1 y.1 (λ i. (e i).1))

pub answer_one : (x y : Verdict × RawSample) → answer_told x ≡ answer_told y → x ≡ y
answer_one = both_one raw_told raw_one

pub judged_one : (x y : Verdict × Sample) → judged_told x ≡ judged_told y → x ≡ y
judged_one = both_one sample_told sample_one

-- what a caller knows of the definition when it has taken the verdict apart
pub answer_is : (x : Verdict × RawSample) (a b : Result RawSample Refusal) → answer_told (answer_of none a) ≡ answer_told x → a ≡ b → x ≡ answer_of none b
answer_is x a b e h = sym (answer_one _ x e) ∙ ap (answer_of none) h

pub judged_is : (x : Verdict × Sample) (j k : Result Sample Refusal) → judged_told (answer_of no_sample j) ≡ judged_told x → j ≡ k → x ≡ answer_of no_sample k
judged_is x j k e h = sym (judged_one _ x e) ∙ ap (answer_of no_sample) h
