-- Laws of an admission.
pub mod Rules
pub mod Admitted
pub mod Unique
