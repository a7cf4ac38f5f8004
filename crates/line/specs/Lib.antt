-- The lines that the session program prints, in 01's words under "The session program reads standard input"; where a line stands in lent bytes, at the
-- end of `Line`, is said only for contracts.
pub mod Line
-- a statement
pub mod Fits
