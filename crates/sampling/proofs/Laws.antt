-- A refused call leaves the session, an open session stays one, a penalty and an emergency stand. Assumes nothing.
use mathlib.Core.Path.{◌≡◌, refl, sym, ap, ◌∙◌, subst}
use mathlib.Core.Bool.{Bool, true, false, not, cond, ◌||◌, or-true}
use mathlib.Core.List.{List, [], ◌∷◌}
use Prim.Native.Nat.{ℕ, zero, suc, ◌≤◌, ◌<◌}
use native.Mathlib.Nat.{zero-lt-suc}
use native.Mathlib.Omega.{arith}
use lib.Dec.{eqb}
use borrow.Author.Tests.{le-leb, ne_eqb, eqb-true}
use Rattle.refusal.specs.Lowest.{lowest}
use Rattle.refusal.specs.Steps.{kept}
use Rattle.refusal.specs.Verdict.{Verdict, Accepted, Refused}
use Rattle.refusal.proofs.Order.{append_accepted}
use Rattle.consist.specs.declared.Consist.{Consist}
use Rattle.consist.specs.Consist as consist
use Rattle.consist.specs.Consist.{consist_in, none, read_consist}
use Rattle.consist.proofs.Sound as consist_sound
use Rattle.targets.specs.Targets as targets
use Rattle.sample.specs.declared.Sample.{Sample}
use Rattle.sample.specs.declared.RearPressure.{RearPressure}
use Rattle.sample.specs.declared.RearPressure.TheVariants.{Present, Lost}
use Rattle.sample.specs.Bounds.{RearBounded}
use Rattle.update.specs.Rules.{update_of}
use Rattle.judge.specs.Judge.{standing}
use Rattle.prediction.specs.Prediction.{behind}
use Rattle.brake.specs.declared.Choice.{Choice}
use Rattle.brake.specs.Sound as brake
use Rattle.brake.proofs.Sound.{at_opening_sound}
use Rattle.brake.proofs.Tested as brake_tested
use Rattle.learn.specs.Sound as learner
use Rattle.learn.specs.Suffices.{RearWithin, StaysSound}
use Rattle.learn.proofs.Tested as learner_tested
use Rattle.learn.proofs.Sound.{stays_sound}
use Rattle.admission.proofs.Admitted.{none_holds}
use Rattle.session.specs.declared.Session.{Session}
use Rattle.session.specs.Session.{is_fresh, is_behind, is_open}
use Rattle.session.specs.Open.{opened_with, open_of}
use Rattle.sampling.specs.Learning.{shown_of}
use Rattle.sampling.specs.Sample.{sample_in, brake_after, lesson_after, cause_after, emergency_after, session_after, rules, sample_call}
use Rattle.sampling.specs.Steps.{rules_before}
use Rattle.sampling.specs.Laws.{OpenUnchanged, SampleUnchanged, OpensOpen, StaysOpen, FreshOpening, after_samples, cause_held, CauseStands}
use Rattle.session.proofs.Opened.{opened}
use Rattle.sampling.proofs.InForce.{in_force_sound, brake_in_force}
use Rattle.sampling.proofs.Accepted.{predictable}
use Rattle.sampling.proofs.Admitted.{is_opened, ready, cause_within, emergency_within}

-- ---- refused

pub open_unchanged : OpenUnchanged
unfolding OpenUnchanged open_of
open_unchanged x s choice r h = ap (λ (v : Verdict). kept v (opened_with (read_consist s).1 choice) x) h

pub sample_unchanged : SampleUnchanged
unfolding SampleUnchanged sample_call
sample_unchanged x s p t out r h = ap (λ (v : Verdict). kept v (session_after x (sample_in s) p t) x) h

-- ---- open

module _ (x : Session) where
  is_open_lem : x.opened ≡ true → consist.is_sound x.consist ≡ true → brake.Sound x.consist x.brake → learner.is_sound x.learner ≡ true → x.cause ≤ targets.most
      → x.emergency ≤ targets.most → is_behind x ≡ true → (x.brake.sampled || is_fresh x) ≡ true → is_open x ≡ true
  unfolding is_open
  is_open_lem o c b l k e behind f =
      rw (o, c, (brake_tested.sound_is x.consist x.brake).1 b, l, le-leb x.cause targets.most k, le-leb x.emergency targets.most e, behind, f)

-- an opening with a consist that is not refused
opened_open : (c : Consist) (choice : Choice) → consist.out_of_range c ≡ false → consist.too_light c ≡ false → consist.sound_blocks c ≡ true
    → is_open (opened_with c choice) ≡ true
opened_open c choice r w b =
    is_open_lem (opened_with c choice) refl (consist_sound.sound_is c r w b) (at_opening_sound c choice (consist_sound.sound c r w b)) learner_tested.at_opening_sound
    (omega arith) (omega arith) refl (rw (brake_tested.at_opening_passes c choice, learner_tested.at_opening_is))

pub opens_open : OpensOpen
unfolding OpensOpen open_of read_consist
opens_open x s choice h =
    let (_, (range, (light, (broken, _)))) = none_holds (consist.read_rules s) h in
    ap (λ (v : Verdict). is_open (kept v (opened_with (kept v (consist_in s) none) choice) x)) h
    ∙ opened_open (consist_in s) choice range light (consist_sound.behind_sound s broken)

-- an update has taken a sample
sampled : (x : Session) (m : Sample) → (brake_after x m).sampled ≡ true
unfolding update_of
sampled x m = refl

-- what stood stays
pub standing_stays : (stood called : ℕ) → 0 < stood → standing stood called ≡ stood
unfolding standing
standing_stays stood called h = let n : stood ≡ 0 → ⊥ = λ e. omega arith in rw (ne_eqb stood 0 n)

-- where no cause stands no emergency stood
none_stood : (stood cause called : ℕ) → (0 < stood → 0 < cause) → standing cause called ≡ 0 → stood ≡ 0
none_stood zero cause called h e = refl
none_stood (suc n) cause called h e = absurd (let some = h (zero-lt-suc n) in omega (arith, standing_stays cause called some))

-- so emergency stays behind the penalty: it is called where a penalty stands by then
stays_behind : (stood cause called other : ℕ) → (0 < stood → 0 < cause) →
    let stands = standing cause called in
    eqb (standing stood (behind stands other)) 0 || not (eqb stands 0) ≡ true
unfolding standing
stays_behind stood cause called other h = by (eqb (standing cause called) 0) refl
  where
    by : (b : Bool) → eqb (standing cause called) 0 ≡ b → eqb (standing stood (cond b 0 other)) 0 || not b ≡ true
    by true e = rw (none_stood stood cause called h (eqb-true _ _ e)) refl
    by false e = or-true (eqb (standing stood other) 0)

rear_within : (r : RearPressure) → RearBounded r → RearWithin r
rear_within (Present p) h = h
rear_within Lost h = tt

pub stays_open : StaysOpen
unfolding StaysOpen sample_call cause_after emergency_after StaysSound
stays_open x s p t out h =
    let m = sample_in s in
    let b = append_accepted (rules_before x s p t) _ h in
    let o = is_opened x s p t b in
    let r = predictable x m p (ready x s p t b) in
    let shown = shown_of x.consist (brake_after x m) m in
    ap (λ (v : Verdict). is_open (kept v (session_after x m p t) x)) h
    ∙ is_open_lem (session_after x m p t) refl (in_force_sound x.consist x.learner shown o.tested) (brake_in_force x.consist (brake_after x m) (lesson_after x m).learnt r.brake)
    (learner_tested.is_sound_of (lesson_after x m).learner (stays_sound x.learner shown o.learner (omega (arith, r.sample.time)) (rear_within m.rear r.sample.rear)))
    (cause_within x m p t o.cause) (emergency_within x m p t o.emergency)
    (stays_behind x.emergency x.cause _ _ o.behind) (ap (λ (a : Bool). a || is_fresh (session_after x m p t)) (sampled x m))

pub fresh_opening : FreshOpening
unfolding FreshOpening
fresh_opening x h e =
    let o = opened x h in
    let f = o.fresh e in
    rw (o.opened, f.0, f.1, f.2, f.3)

-- ---- the penalty, and emergency

cause_kept : (e : Bool) (x : Session) (v : Verdict) (s p t : List ℕ) → 0 < cause_held e x
    → cause_held e (kept v (session_after x (sample_in s) p t) x) ≡ cause_held e x
unfolding cause_after emergency_after
cause_kept false x Accepted s p t h = standing_stays x.cause _ h
cause_kept true x Accepted s p t h = standing_stays x.emergency _ h
cause_kept e x (Refused r) s p t h = refl

pub cause_stands : CauseStands
unfolding CauseStands after_samples sample_call
cause_stands e x [] h = refl
cause_stands e x (l ∷ ls) h =
    let v = lowest (rules x l.sample l.profile l.targets l.out) in
    let held = cause_kept e x v l.sample l.profile l.targets h in
    cause_stands e (kept v (session_after x (sample_in l.sample) l.profile l.targets) x) ls (subst (λ (n : ℕ). 0 < n) (sym held) h) ∙ held
