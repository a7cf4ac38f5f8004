-- What a sample brings to the air brakes: the paper's "The air brakes, once a sample", from "A first sample counts" to nominal, and the three tests.
pub mod Readings
