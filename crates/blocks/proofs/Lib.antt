-- Laws of the blocks.
pub mod Sums
pub mod Sound
pub mod Bytes
pub mod Putting
pub mod RoundTrip
pub mod Computing
pub mod Figures
pub mod Unique
