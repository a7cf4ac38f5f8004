-- Laws of the air brakes as they are held.
pub mod StateNumbers
pub mod Rear
pub mod Told
pub mod Sound
pub mod Tested
pub mod Unique
