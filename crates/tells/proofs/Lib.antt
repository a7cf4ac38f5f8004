-- Laws of what a judge tells, and of what the decision's reader leaves.
pub mod Told
