-- Laws of the line.
pub mod Words
pub mod Bounds
pub mod Rounding
pub mod Unique
pub mod Told
pub mod Ranges
pub mod Falling
pub mod Figures
