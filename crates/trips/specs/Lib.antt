-- What holds of whole trips: statements, and the definitions that they are made of. Each is the product's; none only serves proofs.
pub mod Trips
