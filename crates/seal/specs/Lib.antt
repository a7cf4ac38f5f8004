-- The check word, and what it tells.

-- the product's definitions
pub mod Seal
pub mod Apart
-- statements
pub mod Seen
