-- The sample's record.

-- the paper's definitions
pub mod Sample
-- for proofs: what a caller may count on
pub mod Bounds
