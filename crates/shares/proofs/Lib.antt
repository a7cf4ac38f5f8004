-- Laws of the averages by weight, and the contract's uniqueness. Assumes nothing.
pub mod Nested
pub mod One
pub mod Bounds
pub mod Sums
pub mod Turns
pub mod Figures
pub mod Unique
