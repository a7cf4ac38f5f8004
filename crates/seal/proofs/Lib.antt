-- Laws of the check word.
pub mod Modulo
pub mod Apart
pub mod Sums
pub mod Seals
pub mod Gap
pub mod Seen
pub mod Unique
