-- The least-squares line of document 02's R-3 and what it gives. The paper's definitions: Points, Line, Result. Sound says what the sums are within.
-- Falling is a statement: of points that fall there always is a result. Figures: a statement, worked results.
pub mod Points
pub mod Sound
pub mod Line
pub mod Result
pub mod Falling
pub mod Figures
