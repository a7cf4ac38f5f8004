-- Laws of readings.
pub mod Judge
pub mod Rounded
pub mod Accepted
pub mod Value
pub mod Told
pub mod Figures
pub mod Unique
