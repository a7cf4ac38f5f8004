-- Laws of the session.
pub mod Told
pub mod Opened
