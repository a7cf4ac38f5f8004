-- Laws of the profile's judge and writer.
pub mod Grade
pub mod Sound
