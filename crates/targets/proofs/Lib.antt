-- Laws of the targets' judge and writer.
pub mod Sound
pub mod RoundTrip
pub mod Figures
