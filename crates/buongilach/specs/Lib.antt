-- The library's own constants.
pub mod Version
