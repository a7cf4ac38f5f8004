-- Laws of the air brakes as the rules change them.
pub mod Falls
pub mod Emergency
pub mod Unique
