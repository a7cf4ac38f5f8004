-- A sample's refusals. Table: the paper's, of a whole sample call. Steps only serves proofs: what the code's steps find on their way.
pub mod Table
pub mod Steps
