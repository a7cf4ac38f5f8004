-- Laws of the judgement.
pub mod Offsets
pub mod Causes
pub mod Cases
pub mod Figures
pub mod Unique
