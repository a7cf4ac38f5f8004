-- Laws of the readings.
pub mod Unique
