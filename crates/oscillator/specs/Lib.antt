pub mod Loop
pub mod Oscillator
pub mod Selection
pub mod Ways
