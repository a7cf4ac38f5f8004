-- Laws of tables of records.
pub mod Records
pub mod Judging
pub mod Writing
pub mod RoundTrip
pub mod Computing
pub mod Unique
pub mod Keeping
