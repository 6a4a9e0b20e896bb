pub mod Loop
pub mod Noise
