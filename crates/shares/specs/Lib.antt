-- The ground under a manifest train.
-- Shares is the paper: "Grade and curvature are then averaged by weight". Statements: Bounds, what blocks leave as it was; Figures, worked averages.
-- Steps only serves proofs: what the code finds on the way to the averages.
pub mod Shares
pub mod Bounds
pub mod Steps
pub mod Figures
