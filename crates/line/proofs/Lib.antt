-- Laws that several proofs cite, and uniqueness.
pub mod Decimal
pub mod Put
pub mod Spaced
pub mod Fits
pub mod Unique
