-- A sample call. The paper's definitions: Sample, and Learning of R-3; its table of refusals is Table of crate admission. Statements: Laws, of both calls.
-- Steps only serves proofs: what the code's steps find on their way.
pub mod Learning
pub mod Sample
pub mod Steps
pub mod Laws
