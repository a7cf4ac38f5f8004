-- Whole trips, from what is demanded of each call.
pub mod Faster
pub mod Pair
pub mod Trips
pub mod Sides
