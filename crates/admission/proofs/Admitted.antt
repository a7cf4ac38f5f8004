-- What is known of an admitted sample. Assumes nothing.
use mathlib.Core.Path.{◌≡◌, sym, ap, ◌∙◌}
use mathlib.Core.Bool.{false, ◌||◌}
use mathlib.Core.List.{List, [], ◌∷◌}
use Prim.Native.Nat.{ℕ, ◌+◌, ◌-◌, ◌≤◌}
use native.Mathlib.Omega.{arith}
use lib.Dec.{ltb}
use borrow.Author.Tests.{not-false, ltb-false}
use Rattle.bits.proofs.Ranges.{neither}
use Rattle.refusal.specs.Lowest.{Rule, lowest}
use Rattle.refusal.specs.Verdict.{Verdict, Accepted}
use Rattle.refusal.proofs.Order.{accepted, passed, last_passed}
use Rattle.record.specs.Location.{farthest}
use Rattle.consist.specs.declared.Consist.{Consist}
use Rattle.profile.specs.Profile as profile
use Rattle.profile.proofs.Sound as profile_sound
use Rattle.sample.specs.declared.Sample.{Sample}
use Rattle.sample.specs.Sample as sample
use Rattle.sample.specs.Bounds.{Bounded, JudgedBounded}
use Rattle.sample.proofs.Bounds.{judged_bounded}
use Rattle.brake.specs.declared.Brake.{Brake}
use Rattle.walk.specs.Walk.{reach}
use Rattle.admission.specs.Table.{last_start, not_covered}
use Rattle.admission.specs.Steps.{rules_in, admit_of}

-- ---- no rule holds where nothing is refused

abbrev pub NoneHolds : List Rule → Type 0
NoneHolds [] = Unit {0}
NoneHolds (rule ∷ rules) = (rule.0 ≡ false) × NoneHolds rules

pub none_holds : (rules : List Rule) → lowest rules ≡ Accepted → NoneHolds rules
none_holds [] h = tt
none_holds (rule ∷ rules) h = let a = accepted rule.0 rule.1 rules h in (a.0, none_holds rules a.1)

module _ (c : Consist) (k : Brake) (s p t : List ℕ) where
  -- the sample that the bytes stand for
  abbrev read : Sample
  read = sample.sample_of (sample.raw_in s)

  -- ---- what an admission tells

  module _ (v : Verdict) (m : Sample) (h : (v, m) ≡ admit_of c k s p t) where
    pub verdict_is : lowest (rules_in c k s p t) ≡ v
    unfolding admit_of
    verdict_is = sym (λ i. (h i).0)

    pub sample_is : v ≡ Accepted → read ≡ m
    unfolding admit_of
    sample_is a = sym ((λ i. (h i).1) ∙ ap (λ (w : Verdict). (sample.judgement w read).1) (verdict_is ∙ a))

  -- ---- nothing is refused before the walk

  module _ (h : lowest (rules_in c k s p t) ≡ Accepted) where
    -- no condition from 2 to 10 holds
    clear : NoneHolds (rules_in c k s p t)
    clear = none_holds (rules_in c k s p t) h

    pub bounded : Bounded read
    unfolding JudgedBounded sample.lay_out sample.judge_sample
    bounded =
        let (length, (mark, (_, (_, (reading, _))))) = clear in
        let raw = sample.raw_in s in
        judged_bounded s raw read (ap (λ (v : Verdict). sample.answer v raw) (passed _ _ _ length ∙ last_passed _ _ mark))
        (ap (λ (v : Verdict). sample.judgement v read) (last_passed _ _ reading))

    pub judged : profile.judge_profile p ≡ (Accepted, profile.count p)
    judged =
        let (_, (_, (broken, _))) = clear in
        profile_sound.judge_lawful p (not-false (profile.lawful_in p) broken)

    last_within : last_start p ≤ farthest
    last_within =
        let k = profile_sound.judged_sound p (profile.count p) judged in
        (k.each (profile.count p - 1) (omega (arith, k.fewest))).start

    pub covered : read.head + reach ≤ farthest
    unfolding not_covered
    covered =
        let (_, (_, (_, (_, (_, (_, (uncovered, _))))))) = clear in
        let near = ltb read.head c.length || ltb (read.head - c.length) (profile.segment_at p 0).start in
        let far = ltb (last_start p) (read.head + reach) in
        omega (arith, last_within, ltb-false (last_start p) (read.head + reach) (neither near far uncovered).1)
