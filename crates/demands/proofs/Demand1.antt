-- Demand 1: each definition's verdict is the lowest of its rules. Assumes nothing.
use mathlib.Core.Path.{◌≡◌, refl, sym, ap, subst, ◌∙◌}
use mathlib.Core.Bool.{Bool, true, false, ◌||◌}
use mathlib.Core.List.{List, [], ◌∷◌, map}
use mathlib.Core.Logic.{◌↔◌, ⊎_elim}
use Prim.Native.Nat.{ℕ}
use lib.Dec.{eqb}
use borrow.Author.Tests.{eq-eqb}
use Rattle.refusal.specs.declared.Refusal.{Refusal}
use Rattle.refusal.specs.declared.Refusal.TheVariants.{NoSession, WrongLength, WrongMark, OutOfRange, TooLight, BrokenProfile, BrokenTargets, BadReading, WrongTime, NotCovered, NoRoom, BrokenBlocks}
use Rattle.refusal.specs.Verdict.{Verdict, Refused}
use Rattle.refusal.specs.Number.{number_of, number_of_verdict, told}
use Rattle.refusal.specs.Lowest.{Rule, lowest}
use Rattle.refusal.specs.Steps.{kept}
use Rattle.refusal.specs.Written.{written}
use Rattle.refusal.specs.Exactly.{Exactly, Applies, Lowest}
use Rattle.refusal.proofs.Exactly.{exactly, number_tells, written_verdict}
use Rattle.refusal.proofs.Numbers.{verdict_refused, verdict_accepted}
use Rattle.table.specs.Table as table
use Rattle.consist.specs.Consist.{read_consist, write_consist}
use Rattle.sample.specs.Sample.{lay_out, judge_sample, read_sample, write_sample}
use Rattle.decision.specs.Decision.{read_decision, write_decision}
use Rattle.session.specs.Open.{open_of}
use Rattle.sampling.specs.Sample.{sample_call}
use Rattle.held.specs.Held.{read_session, write_session}
use Rattle.lent.specs.Lent.{sample_rules, open_bytes, Sampled}
use Rattle.writes.specs.Written.{write_manifest, sample_written}
use Rattle.tells.specs.Judged.{decision_as_read}
use Rattle.demands.specs.Demand1.{among, table_numbers, RefusesBy, Refuses, RefusesC, Demand1}
use Rattle.demands.proofs.Calls.{calls}
use Rattle.demands.proofs.Eleven.{eleven}
use Rattle.demands.proofs.ByRules.{leaves, by_rules}

-- ---- the table

in_table : (r : Refusal) → among (number_of r) table_numbers ≡ true
in_table NoSession = refl
in_table WrongLength = refl
in_table WrongMark = refl
in_table OutOfRange = refl
in_table TooLight = refl
in_table BrokenProfile = refl
in_table BrokenTargets = refl
in_table BadReading = refl
in_table WrongTime = refl
in_table NotCovered = refl
in_table NoRoom = refl
in_table BrokenBlocks = refl

-- ---- the lines of a call

later : (a b : Bool) → b ≡ true → a || b ≡ true
later true b h = refl
later false b h = h

abbrev lines_of : List Rule → List ℕ
lines_of rules = map (λ (rule : Rule). number_of rule.1) rules

-- a refusal that applies has its number among them
listed : (rules : List Rule) (q : Refusal) → Applies q rules → among (number_of q) (lines_of rules) ≡ true
listed [] q a = absurd a
listed (rule ∷ rules) q a =
    ⊎_elim
    (λ h. ap (λ (b : Bool). b || among (number_of q) (lines_of rules)) (eq-eqb (number_of q) (number_of rule.1) (ap number_of (sym h.1))))
    (λ h. later (eqb (number_of q) (number_of rule.1)) _ (listed rules q h))
    a

-- ---- an answer whose verdict is the lowest of the rules

module _ {S : Type 0} {numbers : List ℕ} {rules : List Rule} {before : S} where
  by : {A : Type 0} {accepted : A} {refused : Refusal → A} {answer : A × S} → lines_of rules ≡ numbers
      → ((q : Refusal) → (answer.0 ≡ refused q) ↔ Lowest rules q) → (answer.0 ≡ accepted) ↔ ((q : Refusal) → Applies q rules → ⊥)
      → ((q : Refusal) → answer.0 ≡ refused q → answer.1 ≡ before) → RefusesBy numbers rules before accepted refused answer
  by lines exact none unchanged = record {
    lines = lines;
    exactly = exact;
    else_accepted = none;
    numbered = λ q h. subst (λ (ns : List ℕ). among (number_of q) ns ≡ true) lines (listed rules q ((exact q).0 h).applies);
    unchanged = unchanged;
  }

  refuses : (answer : Verdict × S) → lines_of rules ≡ numbers → answer.0 ≡ lowest rules → ((q : Refusal) → lowest rules ≡ Refused q → answer.1 ≡ before)
      → Refuses numbers rules before answer
  unfolding Exactly
  refuses answer lines e unchanged =
      let at = exactly rules in
      by lines (λ q. (λ h. (at.refused q).0 (sym e ∙ h), λ h. e ∙ (at.refused q).1 h)) (λ h. at.accepted.0 (sym e ∙ h), λ h. e ∙ at.accepted.1 h)
      (λ q h. unchanged q (sym e ∙ h))

  reads : (value : S) → lines_of rules ≡ numbers → Refuses numbers rules before (lowest rules, kept (lowest rules) value before)
  reads value lines = refuses _ lines refl (λ q h. ap (λ (v : Verdict). kept v value before) h)

  tells : (answer : Verdict × S) → Refuses numbers rules before answer → RefusesC numbers rules before (told answer)
  tells (v, left) r =
      by r.lines (λ q. (λ h. (r.exactly q).0 (verdict_refused v q h), λ h. ap number_of_verdict ((r.exactly q).1 h)))
      (λ h. r.else_accepted.0 (verdict_accepted v h), λ h. ap number_of_verdict (r.else_accepted.1 h))
      (λ q h. r.unchanged q (verdict_refused v q h))

writes : {numbers : List ℕ} {rules : List Rule} (bytes out : List ℕ) → lines_of rules ≡ numbers → Refuses numbers rules out (written (lowest rules) bytes out)
writes {numbers} {rules} bytes out lines =
    refuses _ lines (written_verdict (lowest rules) bytes out) (λ q h. ap (λ (v : Verdict). (written v bytes out).1) h)

pub demand_1 : Demand1
unfolding table.judge table.write read_consist write_consist write_manifest lay_out judge_sample read_sample write_sample read_decision write_decision open_of sample_call read_session write_session open_bytes sample_written decision_as_read
demand_1 = record {
  calls = calls;
  table = record { in_order = refl; no_other = in_table; apart = number_tells };
  eleven = eleven;
  consist_read = λ s. reads _ refl;
  consist_write = λ c out. writes _ _ refl;
  manifest_write = λ c lengths weights out. writes _ _ refl;
  profile_judge = λ p. reads _ refl;
  profile_write = λ starts grades curvatures out. writes _ _ refl;
  targets_judge = λ t. reads _ refl;
  targets_write = λ locations speeds out. writes _ _ refl;
  sample_lay_out = λ s. reads _ refl;
  sample_judge = λ raw. reads _ refl;
  sample_read = λ s. reads _ refl;
  sample_write = λ raw out. writes _ _ refl;
  decision_read = λ s. reads _ refl;
  decision_write = λ d out. writes _ _ refl;
  session_open = λ x s choice. reads _ refl;
  session_sample = λ x s p t out. refuses _ refl refl (λ q h. rw (h));
  held_read = λ s. reads _ refl;
  stored_write = λ x out. writes _ _ refl;
  told = tells;
  buongilach_open = λ consist session choice. tells _ (writes _ _ refl);
  buongilach_sample = λ session s p t decision.
      let rules = sample_rules session s p t decision in
      let (_, x, d) = leaves session s p t decision (lowest rules) in
      subst (λ ((n, x, d) : Sampled). RefusesC {S = List ℕ × List ℕ} (lines_of rules) rules (session, decision) (n, (x, d)))
      (sym (by_rules session s p t decision)) (tells (lowest rules, (x, d)) (refuses (lowest rules, (x, d)) refl refl (λ q h. rw (h))));
  buongilach_write_sample = λ fields out. tells _ (writes _ _ refl);
  buongilach_read_decision = λ s numbers. tells _ (writes _ _ refl);
}
