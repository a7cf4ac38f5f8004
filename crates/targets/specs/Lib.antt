-- The targets' records.

-- the paper's definitions
pub mod Targets
-- statements
pub mod RoundTrip
pub mod Figures
-- for proofs: what a caller may count on
pub mod Sound
-- for code: that its constants are the table's
pub mod Laws
