-- Document 01's line 11 changes no answer: where no line before it applies, the walk is within its limits, and its test finds nothing.
-- Assumes nothing.
use mathlib.Core.Path.{◌≡◌, refl, sym, ap, ◌∙◌}
use mathlib.Core.Bool.{Bool, true, false, ◌&&◌, cond}
use mathlib.Core.List.{List, [], ◌∷◌, ◌++◌, map}
use Prim.Native.Nat.{ℕ}
use lib.Dec.{T}
use Rattle.refusal.specs.declared.Refusal.TheVariants.{NoRoom}
use Rattle.refusal.specs.Verdict.{Verdict, Accepted, Refused}
use Rattle.refusal.specs.Number.{number_of, number_of_verdict}
use Rattle.refusal.specs.Lowest.{Rule, lowest}
use Rattle.refusal.specs.Written.{no_room}
use Rattle.refusal.proofs.Order.{T-left, T-right, all_above, given, passed, append_given, append_passed, append_accepted}
use Rattle.decision.specs.Decision.{both_size}
use Rattle.track.specs.Track.{lay_of}
use Rattle.step.proofs.Gain.{gentle_no_steeper}
use Rattle.walk.specs.Walk.{arrival_for}
use Rattle.laws.specs.Crossing.{crossing_for, Crossings}
use Rattle.laws.proofs.Crossing.{crossings}
use Rattle.laws.specs.Tested.{answered, tested_for, TestIdle}
use Rattle.laws.proofs.Tested.{test_idle}
use Rattle.judge.specs.Approach.{Approach, force, ground, arrival_of}
use Rattle.judge.specs.Emergency.{emergency_force, emergency_arrival}
use Rattle.prediction.proofs.Ready.{walkable}
use Rattle.session.specs.declared.Session.{Session}
use Rattle.sampling.specs.Sample.{sample_in, brake_after, approach, emergency, sample_call}
use Rattle.sampling.specs.Steps.{rules_before}
use Rattle.sampling.proofs.Accepted.{predictable}
use Rattle.sampling.proofs.Admitted.{ready}
use Rattle.demands.specs.Eleven.{Line, numbered, first_line, tested, tested_emergency, is_refused, Eleven}

-- ---- the first line that applies is the lowest refusal

-- the numbers rise: computed, as `all_above` is
abbrev rising : List Rule → Bool
rising [] = true
rising (rule ∷ rules) = all_above (number_of rule.1) rules && rising rules

-- by the verdict of the first lines
abbrev first_by : Verdict → ℕ → ℕ
first_by Accepted rest = rest
first_by (Refused r) rest = number_of r

first_is : (rules : List Rule) (lines : List Line) → T (rising rules) → first_line (map numbered rules ++ lines) ≡ first_by (lowest rules) (first_line lines)
unfolding first_line lowest
first_is [] lines t = refl
first_is ((b, r) ∷ rules) lines t = by b refl (first_is rules lines (T-right (all_above (number_of r) rules) (rising rules) t))
  where
    rest : ℕ
    rest = first_line (map numbered rules ++ lines)

    by : (c : Bool) → b ≡ c → rest ≡ first_by (lowest rules) (first_line lines) → cond b (number_of r) rest ≡ first_by (lowest ((b, r) ∷ rules)) (first_line lines)
    by true e h =
        ap (λ (c : Bool). cond c (number_of r) rest) e
        ∙ sym (ap (λ (v : Verdict). first_by v (first_line lines)) (given b r rules (T-left (all_above (number_of r) rules) (rising rules) t) e))
    by false e h =
        ap (λ (c : Bool). cond c (number_of r) rest) e ∙ h ∙ sym (ap (λ (v : Verdict). first_by v (first_line lines)) (passed b r rules e))

-- ---- past the lines before the walk

module _ (x : Session) (s p t : List ℕ) where
  abbrev made : Approach
  made = approach x (sample_in s) p

  module _ (h : lowest (rules_before x s p t) ≡ Accepted) where
    -- over the sample's track, whatever the force
    test_finds_nothing : (force : ℕ → ℕ) (u : ℕ) →
        tested_for x.consist force (ground made) (sample_in s).head (sample_in s).speed u
        ≡ answered (crossing_for x.consist force (ground made) (sample_in s).head (sample_in s).speed u)
    unfolding TestIdle
    test_finds_nothing force u =
        let m = sample_in s in
        let w = walkable x.consist (brake_after x m) m p (predictable x m p (ready x s p t h)) in
        test_idle x.consist force (ground made) m.head m.speed u w.limited (gentle_no_steeper (lay_of p) x.consist w.track w.blocks)
        w.speed

    -- so it finds the stop
    stop_found : (force : ℕ → ℕ) →
        tested_for x.consist force (ground made) (sample_in s).head (sample_in s).speed 0
        ≡ answered (arrival_for x.consist force (ground made) (sample_in s).head (sample_in s).speed 0)
    unfolding Crossings
    stop_found force =
        test_finds_nothing force 0
        ∙ ap answered (sym (crossings x.consist force (ground made) (sample_in s).head (sample_in s).speed).stop_stands)

    stop_tested : tested made 0 ≡ answered (arrival_of made 0)
    unfolding arrival_of
    stop_tested = stop_found (force made)

    emergency_tested : tested_emergency (emergency x (sample_in s) p) ≡ answered (emergency_arrival (emergency x (sample_in s) p))
    unfolding emergency_arrival
    emergency_tested = stop_found (emergency_force (emergency x (sample_in s) p))

  module _ (out : List ℕ) where
    abbrev room : List Rule
    room = (no_room both_size out, NoRoom) ∷ []

    -- the lines from 11 on are those of the room
    rest_is : (b full : Bool) → b ≡ false → first_line ((b, 11) ∷ (full, 12) ∷ []) ≡ number_of_verdict (lowest ((full, NoRoom) ∷ []))
    unfolding first_line lowest
    rest_is b true e = ap (λ (c : Bool). cond c 11 12) e
    rest_is b false e = ap (λ (c : Bool). cond c 11 0) e

    answers_by : (v : Verdict) → lowest (rules_before x s p t) ≡ v →
        first_by v (first_line ((is_refused (tested made 0), 11) ∷ (no_room both_size out, 12) ∷ [])) ≡ number_of_verdict (lowest (rules_before x s p t ++ room))
    answers_by Accepted h =
        rest_is (is_refused (tested made 0)) (no_room both_size out) (ap is_refused (stop_tested h))
        ∙ ap number_of_verdict (sym (append_passed (rules_before x s p t) room h))
    answers_by (Refused r) h = ap number_of_verdict (sym (append_given (rules_before x s p t) room r tt h))

pub eleven : (x : Session) (s p t out : List ℕ) → Eleven x s p t out
unfolding sample_call
eleven x s p t out = record {
  answers =
      first_is (rules_before x s p t) _ tt
      ∙ answers_by x s p t out (lowest (rules_before x s p t)) refl;
  stop = λ h. stop_tested x s p t (append_accepted (rules_before x s p t) _ h);
  crossings = λ h. test_finds_nothing x s p t (append_accepted (rules_before x s p t) _ h) (force (made x s p t));
  emergency_arrival_lem = λ h. emergency_tested x s p t (append_accepted (rules_before x s p t) _ h);
}
