-- Readings in hundredths.

-- the paper's definitions
pub mod Reading
-- statements
pub mod Figures
-- for inner contracts: the comparisons that judge a float, and what it is taken apart into
pub mod InRange
pub mod IsFraction
