-- Laws of a prediction.
pub mod Ready
pub mod Bounds
pub mod Unique
