-- The records' judges, and a decision's numbers. Definitions only.
pub mod Judged
