-- Laws that several proofs cite, and the theorems about the lines, the counts and the output.
pub mod Fits
pub mod Front
pub mod Known
pub mod Opening
pub mod Opens
pub mod Room
pub mod Sections
pub mod Step
pub mod Taken
pub mod Turns
pub mod Unique
pub mod Printed
pub mod Short
pub mod Case
pub mod Figures
