-- Laws and figures of the layers that no code's proof needs: statements.
-- what is written reads back, and what is accepted is what would be written
pub mod ProfileTrip
pub mod SampleTrip
pub mod HeldTrip
-- what damage to a session's record is seen
pub mod HeldDamage
-- the walk as the papers word it; document 01's location for a target speed; document 01's walk with its test for 11
pub mod Literal
pub mod Crossing
pub mod Tested
-- the comparison behind demand 3
pub mod Compare
pub mod Approaches
pub mod Emergency
-- figures by computation
pub mod ProfileFigures
pub mod SampleFigures
pub mod BrakeFigures
pub mod HeldFigures
