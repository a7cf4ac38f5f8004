-- A choice, and when the rear was last present, are those of their numbers. Assumes nothing.
use mathlib.Core.Path.{◌≡◌, refl, sym, ap, ◌∙◌}
use Prim.Native.Nat.{ℕ, zero, suc, ◌≤◌, ◌<◌}
use native.Mathlib.Omega.{arith}
use Rattle.brake.specs.declared.Choice.{Choice}
use Rattle.brake.specs.declared.Choice.TheVariants.{FiveSeconds, Everlasting}
use Rattle.brake.specs.Rear.{Heard, Never, At, choice_number, choice_of, heard_number, heard_of}

pub choice_back : (choice : Choice) → choice_of (choice_number choice) ≡ choice
choice_back FiveSeconds = refl
choice_back Everlasting = refl

pub heard_back : (heard : Heard) → heard_of (heard_number heard) ≡ heard
heard_back Never = refl
heard_back (At time) = refl

pub choice_one : (x y : Choice) → choice_number x ≡ choice_number y → x ≡ y
choice_one x y h = sym (choice_back x) ∙ ap choice_of h ∙ choice_back y

pub heard_one : (x y : Heard) → heard_number x ≡ heard_number y → x ≡ y
heard_one x y h = sym (heard_back x) ∙ ap heard_of h ∙ heard_back y

pub choice_most : (choice : Choice) → choice_number choice ≤ 1
choice_most FiveSeconds = omega arith
choice_most Everlasting = omega arith

-- and numbers those of what they tell: of a choice, where they have one bit
pub choice_again : (n : ℕ) → n < 2 → choice_number (choice_of n) ≡ n
choice_again zero h = refl
choice_again (suc zero) h = refl
choice_again (suc (suc n)) h = absurd (omega arith)

pub heard_again : (n : ℕ) → heard_number (heard_of n) ≡ n
heard_again zero = refl
heard_again (suc n) = refl
