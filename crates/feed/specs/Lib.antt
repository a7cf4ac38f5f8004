-- The session program. `Output` is 01's "The session program reads standard input": the whole output of a feed, by what opens it (crate `opening`) and the
-- lines that are printed (crate `line`). `Bytes` and `Opened` are for contracts. The others are statements.
pub mod Output
pub mod Bytes
pub mod Opened
pub mod Printed
pub mod Short
pub mod Case
pub mod Figures
