-- The session's record, whose bytes are the product's own: 01 says only what is held. Definitions only.
pub mod Held
