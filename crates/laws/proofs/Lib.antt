-- Laws and figures of the layers, proved.
pub mod ProfileTrip
pub mod SampleTrip
pub mod HeldTrip
pub mod HeldDamage
pub mod Literal
pub mod Tested
pub mod Forces
pub mod Compare
pub mod Offsets
pub mod Alongside
pub mod Approaches
pub mod Emergency
pub mod Crossing
pub mod ProfileFigures
pub mod SampleFigures
pub mod BrakeFigures
pub mod HeldFigures
