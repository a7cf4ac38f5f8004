-- What the code's own runs leave: statements, and the definitions that they are made of. Each is the product's; none only serves proofs.
pub mod Runs
pub mod CodeMeets
