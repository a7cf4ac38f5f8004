-- Laws of a profile laid out, of the averages under a train, of its totals, and the contracts' uniqueness. Assumes nothing.
pub mod Lay
pub mod Rising
pub mod Gentle
pub mod Holding
pub mod Differences
pub mod Sizes
pub mod Kept
pub mod Accepted
pub mod Figures
pub mod Unique
