-- The air brakes, as they are held from sample to sample.
-- State, Brake and Equalization are the paper's: "The air brakes, once a sample"; Rear is document 02's R-7. Sound is the product's: the invariant of a brake, as facts and as the test that
-- `is_sound` makes.
pub mod State
pub mod Rear
pub mod Brake
pub mod Equalization
pub mod Sound
