-- What becomes of the air brakes with one accepted sample.
-- Rules is the paper's "The air brakes, once a sample": the states, and the update. Sound is the product's: what an update requires, and of what readings it keeps
-- the invariant.
pub mod Rules
pub mod Sound
