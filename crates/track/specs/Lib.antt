-- The track under the train.
-- Track is the paper: "Train from head minus length to head. G and C are the sums ..". Rising and Gentle are the product's: the feet of each
-- segment under the train, and what a walk may count on. Totals is "Sums kept with the profile", and that they give the same sums.
-- Figures: a statement, worked averages and totals. Steps only serves proofs: what the code finds on the way to the averages.
pub mod Track
pub mod Rising
pub mod Gentle
pub mod Totals
pub mod Steps
pub mod Figures
