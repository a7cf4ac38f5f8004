-- Laws of what a writer tells, and of a consist with the blocks of two lists.
pub mod Told
pub mod Listed
