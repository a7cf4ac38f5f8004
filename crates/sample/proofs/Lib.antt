-- Laws of the sample's reader, judge and writer.
pub mod Told
pub mod Answers
pub mod Bounds
