-- The walk.
-- Walk is the paper. Range is the product's: what `predict` asks for. Marks only serves proofs: how one pass keeps all locations.
pub mod Walk
pub mod Range
pub mod Marks
