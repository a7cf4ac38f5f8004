-- What C links.
pub mod Unique
