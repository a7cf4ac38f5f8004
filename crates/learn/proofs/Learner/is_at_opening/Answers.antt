-- `Learner::is_at_opening` meets its contract: the derived equality, field by field, is the definition's. Assumes nothing.
use Rattle.std.proofs.Common.{◌≡◌, ◌∙◌}
use native.Mathlib.Omega.{arith}
use mathlib.Core.Path.{refl}
use lib.Dec.{eqb}
use denote.Enum.Bare.{sameb}
use Rattle.learn.specs.declared.Stage.{Stage}
use Rattle.learn.specs.declared.Stage.TheVariants.{Waiting, FrontFell, Initial, Falling, Done}
use Rattle.learn.specs.contracts.Stage as stage_type
use Rattle.learn.specs.Stage.{stage_number, is_at_opening}
use Rattle.learn.proofs.Learner.is_at_opening.Goals as goal

waits : (stage : Stage) → sameb stage_type.the_type stage Waiting ≡ eqb (stage_number stage) 0
waits Waiting = refl
waits FrontFell = refl
waits Initial = refl
waits Falling = refl
waits Done = refl

pub returns : goal.returns
unfolding is_at_opening
returns c = c.eq.ensures ∙ rw (c.bare.ensures, waits c.args.self.stage) (grind arith)
