-- The profile's records.

-- the paper's definitions
pub mod Grade
pub mod Profile
-- for proofs: what a caller may count on
pub mod Sound
-- for code: that its constants are the table's
pub mod Laws
