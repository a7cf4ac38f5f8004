-- `Brake::is_at_opening` meets its contract: the derived equality, field by field, is the definition's. Assumes nothing.
use Rattle.std.proofs.Common.{◌≡◌, Bool, true, false, ◌∙◌}
use native.Mathlib.Omega.{arith}
use mathlib.Core.Path.{refl}
use mathlib.Core.Bool.{beq}
use lib.Dec.{eqb}
use denote.Enum.Bare.{sameb}
use Rattle.std.specs.Option.{option_eq}
use Rattle.brake.specs.declared.State.{State}
use Rattle.brake.specs.declared.State.TheVariants.{Charged, ApplyingService, HoldingService, ApplyingEmergency, HoldingEmergency, Charging}
use Rattle.brake.specs.declared.Choice.{Choice}
use Rattle.brake.specs.declared.Choice.TheVariants.{FiveSeconds, Everlasting}
use Rattle.brake.specs.contracts.State as state_type
use Rattle.brake.specs.contracts.Choice as choice_type
use Rattle.brake.specs.State.{state_number}
use Rattle.brake.specs.Rear.{Heard, Never, At, heard_number}
use Rattle.brake.specs.Brake.{is_at_opening}
use Rattle.brake.proofs.Brake.is_at_opening.Goals as goal

charged : (s : State) → sameb state_type.the_type s Charged ≡ eqb (state_number s) 0
charged Charged = refl
charged ApplyingService = refl
charged HoldingService = refl
charged ApplyingEmergency = refl
charged HoldingEmergency = refl
charged Charging = refl

never : (heard : Heard) → option_eq eqb heard Never ≡ eqb (heard_number heard) 0
never Never = refl
never (At time) = grind arith

same_choice : (choice : Choice) → sameb choice_type.the_type choice choice ≡ true
same_choice FiveSeconds = refl
same_choice Everlasting = refl

same_test : (b : Bool) → beq b b ≡ true
same_test true = refl
same_test false = refl

-- src/lib.rt:154:5
pub returns : goal.returns
unfolding is_at_opening
returns c = let k = c.args.self in
    c.eq.ensures ∙ rw (c.at_opening.ensures, charged k.state, never k.heard, same_choice k.choice, same_test k.sampled) (grind arith)
