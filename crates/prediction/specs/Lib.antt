-- One prediction of a sample. Prediction: what it reads and what it answers. Steps only serves proofs: what the code's steps find and ask.
pub mod Prediction
pub mod Steps
