-- The session in lent bytes, which is the product's own: 01 says what is held, not how a customer keeps it. Definitions only.
pub mod Lent
