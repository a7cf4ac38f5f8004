-- Laws of the update.
pub mod Rooms
pub mod Sound
pub mod Unique
