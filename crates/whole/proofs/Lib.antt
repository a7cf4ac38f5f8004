-- The laws that other crates cite, from whole numbers over their parts up to the contracts' uniqueness. Assumes nothing.
pub mod Parts
pub mod Order
pub mod Size
pub mod Words
pub mod Floors
pub mod Ceilings
pub mod Roots
pub mod Figures
pub mod Unique
