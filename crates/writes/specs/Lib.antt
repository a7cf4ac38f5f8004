-- The records' writers over plain numbers. Definitions only.
pub mod Written
