-- Laws of the walk.
pub mod Equations
pub mod Arrivals
pub mod Reach
pub mod Unique
