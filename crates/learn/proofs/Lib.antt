-- Laws of learning.
pub mod Choices
pub mod Rooms
pub mod Stages
pub mod Tested
pub mod Suffices
pub mod Sound
pub mod Falls
pub mod Unique
