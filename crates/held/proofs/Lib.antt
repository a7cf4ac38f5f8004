-- Laws of the session's record that the code's proofs and others' cite.
pub mod Sizes
pub mod Answers
pub mod Start
