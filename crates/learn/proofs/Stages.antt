-- A stage is that of its number, and what is told of a learner tells the learner. Assumes nothing.
use mathlib.Core.Path.{◌≡◌, refl, sym, ap, ◌∙◌}
use mathlib.Core.List.{List}
use Prim.Native.Nat.{ℕ, zero, suc, ◌≤◌}
use native.Mathlib.Omega.{arith}
use lib.ListN.{get_or}
use Rattle.learn.specs.declared.Stage.{Stage}
use Rattle.learn.specs.declared.Stage.TheVariants.{Waiting, FrontFell, Initial, Falling, Done}
use Rattle.learn.specs.declared.Learner.{Learner}
use Rattle.learn.specs.Stage.{stage_number, stage_of, learner_told}

-- ---- the stage

pub stage_of_number : (s : Stage) → stage_of (stage_number s) ≡ s
stage_of_number Waiting = refl
stage_of_number FrontFell = refl
stage_of_number Initial = refl
stage_of_number Falling = refl
stage_of_number Done = refl

pub stage_one : (s t : Stage) → stage_number s ≡ stage_number t → s ≡ t
stage_one s t h = sym (stage_of_number s) ∙ ap stage_of h ∙ stage_of_number t

pub stage_number_most : (s : Stage) → stage_number s ≤ 4
stage_number_most Waiting = omega arith
stage_number_most FrontFell = omega arith
stage_number_most Initial = omega arith
stage_number_most Falling = omega arith
stage_number_most Done = omega arith

pub number_of_stage : (n : ℕ) → n ≤ 4 → stage_number (stage_of n) ≡ n
number_of_stage zero h = refl
number_of_stage (suc zero) h = refl
number_of_stage (suc (suc zero)) h = refl
number_of_stage (suc (suc (suc zero))) h = refl
number_of_stage (suc (suc (suc (suc zero)))) h = refl
number_of_stage (suc (suc (suc (suc (suc n))))) h = absurd (omega arith)

-- ---- the learner

abbrev learner_with : Stage → List ℕ → Learner
learner_with stage ns = record {
  stage = stage;
  since = get_or ns 1 0;
  init = get_or ns 2 0;
  last = get_or ns 3 0;
  pressure = get_or ns 4 0;
  sums = record { count = get_or ns 5 0; times = get_or ns 6 0; squares = get_or ns 7 0; pressures = get_or ns 8 0; products = get_or ns 9 0 };
}

learner_at : List ℕ → Learner
learner_at ns = learner_with (stage_of (get_or ns 0 0)) ns

learner_back : (l : Learner) → learner_at (learner_told l) ≡ l
unfolding learner_at
learner_back l = rw (stage_of_number l.stage)

-- no two are told alike
pub learner_one : (l m : Learner) → learner_told l ≡ learner_told m → l ≡ m
learner_one l m h = sym (learner_back l) ∙ ap learner_at h ∙ learner_back m
