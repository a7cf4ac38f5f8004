-- Division and root of whole numbers, as document 01 means them.
-- Floor and Ceiling: "down", "up". Root: the "whole square root". LongHand: how `isqrt` works it.
-- Figures: a statement, worked divisions and roots.
pub mod Floor
pub mod Ceiling
pub mod Root
pub mod LongHand
pub mod Figures
