-- What holds of a choice, and what is made of it. Assumes nothing.
use mathlib.Core.Path.{◌≡◌, refl}
use mathlib.Core.Bool.{Bool, true, false, cond}

-- what holds of each way where it is taken, holds of the choice
pub either : {A : Type 0} (P : A → Type 0) (b : Bool) {x y : A} → (b ≡ true → P x) → (b ≡ false → P y) → P (cond b x y)
either P true f g = f refl
either P false f g = g refl

-- what is made of each way is made of the choice
pub chosen : {A B : Type 0} (f : A → B) (b : Bool) (u v : A) {x y : B} → x ≡ f u → y ≡ f v → cond b x y ≡ f (cond b u v)
chosen f true u v e g = e
chosen f false u v e g = g
