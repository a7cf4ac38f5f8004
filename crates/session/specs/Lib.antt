-- The session. The paper's definitions: Session (what it holds, when it is open), Open (the opening); a sample call is of crate sampling.
pub mod Session
pub mod Open
