-- What is answered before the walk, one step after the other: what a step refuses is handed on, whatever comes after it. Assumes nothing.
use mathlib.Core.Path.{◌≡◌, refl, sym, ap, ◌∙◌}
use mathlib.Core.Bool.{Bool}
use mathlib.Core.List.{List, [], ◌∷◌, ◌++◌}
use Prim.Native.Nat.{ℕ}
use lib.Dec.{T}
use Rattle.refusal.specs.Lowest.{Rule, lowest}
use Rattle.refusal.specs.declared.Refusal.{Refusal}
use Rattle.refusal.specs.declared.Refusal.TheVariants.{WrongTime, NotCovered}
use Rattle.refusal.specs.Verdict.{Verdict, Accepted, Refused}
use Rattle.refusal.proofs.Order.{before, append_given, append_passed}
use Rattle.refusal.proofs.Steps.{first_of, in_order}
use Rattle.table.specs.Table.{judge}
use Rattle.profile.specs.Profile as profile
use Rattle.targets.specs.Targets as targets
use Rattle.consist.specs.declared.Consist.{Consist}
use Rattle.sample.specs.declared.RawSample.{RawSample}
use Rattle.sample.specs.declared.Sample.{Sample}
use Rattle.sample.specs.Sample as sample
use Rattle.sample.proofs.Answers.{judged_accepted}
use Rattle.brake.specs.declared.Brake.{Brake}
use Rattle.admission.specs.Table.{wrong_time, not_covered}
use Rattle.admission.specs.Steps.{rules_raw, no_entry, admit_raw, admit_of}

-- a step's verdict, or what comes after it
abbrev pub or_else : Verdict → Verdict → Verdict
or_else Accepted v = v
or_else (Refused r) v = Refused r

step : (xs ys : List Rule) (v : Verdict) → T (before xs ys) → lowest xs ≡ v → lowest (xs ++ ys) ≡ or_else v (lowest ys)
step xs ys Accepted t h = append_passed xs ys h
step xs ys (Refused r) t h = append_given xs ys r t h

profile_verdict : (p : List ℕ) → (profile.judge_profile p).0 ≡ lowest (profile.judge_rules p)
unfolding judge
profile_verdict p = refl

targets_verdict : (t : List ℕ) → (targets.judge_targets t).0 ≡ lowest (targets.judge_rules t)
unfolding judge
targets_verdict t = refl

-- ---- of a sample that is laid out

-- 6, 7 and 8 as their judges say, then 9 and 10
pub admit_raw_is : (c : Consist) (k : Brake) (raw : RawSample) (p t : List ℕ) (v₆ v₇ v₈ : Verdict) (b₉ b₁₀ : Bool)
    → (profile.judge_profile p).0 ≡ v₆
    → (targets.judge_targets t).0 ≡ v₇
    → (sample.judge_sample raw).0 ≡ v₈
    → wrong_time k (sample.sample_of raw) ≡ b₉
    → not_covered c p (sample.sample_of raw) ≡ b₁₀
    → admit_raw c k raw p t
    ≡ sample.judgement (or_else v₆ (or_else v₇ (or_else v₈ (first_of ((b₉, WrongTime) ∷ (b₁₀, NotCovered) ∷ []))))) (sample.sample_of raw)
unfolding admit_raw sample.judge_sample
admit_raw_is c k raw p t v₆ v₇ v₈ b₉ b₁₀ h₆ h₇ h₈ h₉ h₁₀ =
    ap (λ (v : Verdict). sample.judgement v (sample.sample_of raw))
    (step (profile.judge_rules p) _ v₆ tt (sym (profile_verdict p) ∙ h₆)
    ∙ ap (or_else v₆)
    (step (targets.judge_rules t) _ v₇ tt (sym (targets_verdict t) ∙ h₇)
    ∙ ap (or_else v₇)
    (step (sample.judge_rules raw) _ v₈ tt h₈
    ∙ ap (or_else v₈) (in_order ((wrong_time k (sample.sample_of raw), WrongTime) ∷ (not_covered c p (sample.sample_of raw), NotCovered) ∷ []) tt ∙ rw (h₉, h₁₀)))))

-- where all three accept, the rest is left to 9 and 10
pub left_to : (c : Consist) (k : Brake) (raw : RawSample) (p t : List ℕ) (n o : ℕ) (m : Sample)
    → profile.judge_profile p ≡ (Accepted, n)
    → targets.judge_targets t ≡ (Accepted, o)
    → sample.judge_sample raw ≡ (Accepted, m)
    → (b₉ b₁₀ : Bool) → wrong_time k m ≡ b₉ → not_covered c p m ≡ b₁₀
    → admit_raw c k raw p t ≡ sample.judgement (first_of ((b₉, WrongTime) ∷ (b₁₀, NotCovered) ∷ [])) m
left_to c k raw p t n o m six seven eight b₉ b₁₀ h₉ h₁₀ =
    let is : m ≡ sample.sample_of raw = (judged_accepted raw m eight).1 in
    admit_raw_is c k raw p t _ _ _ b₉ b₁₀ (λ i. (six i).0) (λ i. (seven i).0) (λ i. (eight i).0)
    (ap (wrong_time k) (sym is) ∙ h₉) (ap (not_covered c p) (sym is) ∙ h₁₀)
    ∙ ap (sample.judgement (first_of ((b₉, WrongTime) ∷ (b₁₀, NotCovered) ∷ []))) (sym is)

-- ---- of the bytes

module _ (c : Consist) (k : Brake) (s p t : List ℕ) where
  laid : (v : Verdict) → lowest (sample.layout_rules s) ≡ v
      → admit_of c k s p t ≡ sample.judgement (or_else v (lowest (rules_raw c k (sample.raw_in s) p t))) (sample.sample_of (sample.raw_in s))
  unfolding admit_of
  laid v h = ap (λ (w : Verdict). sample.judgement w (sample.sample_of (sample.raw_in s))) (step (sample.layout_rules s) _ v tt h)

  pub not_laid_out : (r : Refusal) → (sample.lay_out s).0 ≡ Refused r → admit_of c k s p t ≡ no_entry (Refused r)
  unfolding sample.lay_out
  not_laid_out r h = laid (Refused r) h

  pub laid_out : (sample.lay_out s).0 ≡ Accepted → admit_of c k s p t ≡ admit_raw c k (sample.lay_out s).1 p t
  unfolding sample.lay_out admit_raw
  laid_out h = laid Accepted h ∙ sym (ap (λ (v : Verdict). admit_raw c k (sample.answer v (sample.raw_in s)).1 p t) h)
