-- The code's own runs, from each call's theorem.
pub mod LentAnswers
pub mod Passing
pub mod Called
pub mod SessionFits
pub mod SessionValue
pub mod Runs
pub mod Loaded
pub mod Beside
pub mod CodeMeets
