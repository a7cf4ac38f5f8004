-- Laws of a step, and the contracts' uniqueness.
pub mod Bounds
pub mod Gain
pub mod Figures
pub mod Unique
