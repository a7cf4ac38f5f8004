-- Laws of the calls with the session in lent bytes.
pub mod Calls
