-- One step of the walk. Curve and Step are the paper, in its order. Range is the product's: what `stepped` asks for.
-- Statements: Gain, how much of q a step can gain; Figures, the emergency's curve.
pub mod Curve
pub mod Step
pub mod Range
pub mod Gain
pub mod Figures
