-- What the answer of a step tells, and that rules in the order of their numbers are tried one after the other. Assumes nothing.
use mathlib.Core.Path.{◌≡◌, refl, ◌∙◌}
use mathlib.Core.Bool.{Bool, true, false, ◌&&◌, cond}
use mathlib.Core.List.{List, [], ◌∷◌}
use lib.Dec.{T}
use Rattle.refusal.specs.Steps.{On, Off}
use Rattle.refusal.specs.Verdict.{Verdict, Accepted, Refused}
use Rattle.refusal.specs.Number.{number_of}
use Rattle.refusal.specs.Lowest.{Rule, lowest}
use Rattle.refusal.specs.Steps.{step_of}
use Rattle.refusal.proofs.Order.{T-left, T-right, all_above, given, passed}

pub on_unless : (b : Bool) → On ≡ step_of b → b ≡ false
on_unless true h = absurd (cc)
on_unless false h = refl

pub off_unless : (b : Bool) → Off ≡ step_of b → b ≡ true
off_unless true h = refl
off_unless false h = absurd (cc)

-- the first rule that is broken
abbrev pub first_of : List Rule → Verdict
first_of [] = Accepted
first_of (rule ∷ rules) = cond rule.0 (Refused rule.1) (first_of rules)

-- the numbers rise: computed from the refusals alone, so `tt` shows it of a list that is written out
abbrev pub rising : List Rule → Bool
rising [] = true
rising (rule ∷ rules) = all_above (number_of rule.1) rules && rising rules

pub in_order : (rules : List Rule) → T (rising rules) → lowest rules ≡ first_of rules
unfolding lowest
in_order [] t = refl
in_order (rule ∷ rules) t = by rule.0 refl (in_order rules (T-right (all_above (number_of rule.1) rules) (rising rules) t))
  where
    by : (b : Bool) → rule.0 ≡ b → lowest rules ≡ first_of rules → lowest (rule ∷ rules) ≡ cond rule.0 (Refused rule.1) (first_of rules)
    by true e r = given rule.0 rule.1 rules (T-left (all_above (number_of rule.1) rules) (rising rules) t) e ∙ rw e
    by false e r = passed rule.0 rule.1 rules e ∙ r ∙ rw e
