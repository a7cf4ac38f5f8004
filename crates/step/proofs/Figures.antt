-- The emergency's curve, computed. Assumes nothing.
use mathlib.Core.Path.{refl}
use Rattle.step.specs.Curve.{drop_at, cylinder_at, force_at, emergency_curve}
use Rattle.step.specs.Figures.{Figures}

pub figures : Figures
unfolding drop_at cylinder_at force_at emergency_curve
figures = record { early = refl; early_force = refl; late = refl; later = refl; none = refl }
