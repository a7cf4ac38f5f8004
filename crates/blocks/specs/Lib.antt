-- The blocks' records.

-- the paper's definitions; `blocks_of` of Steps is for inner contracts
pub mod Blocks
pub mod Steps
-- statements
pub mod RoundTrip
pub mod Figures
-- for proofs: what a caller may count on
pub mod Sound
