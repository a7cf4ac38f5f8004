-- Laws of a sample call.
pub mod Accepted
pub mod InForce
pub mod Admitted
pub mod Calls
pub mod Written
pub mod Laws
pub mod Computing
